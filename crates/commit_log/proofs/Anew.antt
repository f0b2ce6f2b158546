-- A change that prunes every chunk of a bitmap makes of it what it makes of one that retains nothing.
use Rattle.std.proofs.Common.{◌≡◌, ℕ, ◌*◌, ◌/◌, ◌≤◌, List, [], ◌∷◌, ◌++◌, refl, sym, ap, ◌∙◌, arith, Option, Some, None}
use Rattle.std.specs.Prelude.{nat_eq}
use Rattle.std.specs.Map.{lookup}
use Rattle.bitmap_core.specs.PrunedBits.{PrunedBits, bit_at, bit_len}
use Rattle.bitmap_core.proofs.Pruned.Positions.{bit_from_bits, bit_past, len_from_bits}
use Rattle.historical_bitmap.specs.Record.{bit_or_else}
use Rattle.historical_bitmap.specs.View.{View, history_of}
use Rattle.commit_log.specs.Entries.{Change}
use Rattle.commit_log.specs.Entries.Entry.{Commit}
use Rattle.commit_log.specs.Kept.{after, applied, kept_of}
use Rattle.commit_log.proofs.Making.{is_made}

same_or_else : (n : ℕ) (found : Option (List ℕ)) (a b : PrunedBits) (k : ℕ) → bit_at n a k ≡ bit_at n b k → bit_or_else n found a k ≡ bit_or_else n found b k
same_or_else n None a b k e = e
same_or_else n (Some bytes) a b k e = refl

-- a bitmap that retains nothing
abbrev pub nothing : ℕ → PrunedBits
nothing pruned = record { pruned = pruned; bits = [] }

pub applied_anew : (n : ℕ) (old : PrunedBits) (c : Change) → 8 * n * c.pruned ≤ c.len → bit_len n old ≤ 8 * n * c.pruned → applied n (nothing c.pruned) c ≡ applied n old c
applied_anew n old c covers past =
    let none : PrunedBits = nothing c.pruned in
    let len = len_from_bits n c.pruned c.len (λ k. bit_or_else n (lookup (nat_eq (k / (8 * n))) c.chunks) none k) covers in
    is_made n c.pruned c.len (λ k. bit_or_else n (lookup (nat_eq (k / (8 * n))) c.chunks) old k) (applied n none c) (record {
      pruned_is = refl;
      len_is = len;
      bits = λ k r. bit_from_bits n c.pruned c.len (λ j. bit_or_else n (lookup (nat_eq (j / (8 * n))) c.chunks) none j) k r.0 (omega (arith, r.1, len))
          ∙ same_or_else n (lookup (nat_eq (k / (8 * n))) c.chunks) none old k (bit_past n none k (omega (arith, r.0)) ∙ sym (bit_past n old k (omega (arith, r.0, past))));
    })

-- the entry of a commit that replaces the bitmap by the one that a change makes of it
pub replaced_entry : {S : Type 0} (n : ℕ) (c : Change) (old made : PrunedBits) (history : List (ℕ × PrunedBits)) (last : Option ℕ) (b : View S) → made ≡ applied n old c
    → b.current ≡ made → history_of n b ≡ history ++ (c.number, made) ∷ [] → b.last ≡ Some c.number
    → kept_of n b ≡ after n (record { current = old; history = history; last = last }) (Commit c)
replaced_entry n c old made history last b is current past last_is =
    let here : b.current ≡ applied n old c = current ∙ is in
    let kept : history_of n b ≡ history ++ (c.number, applied n old c) ∷ [] = past ∙ ap (λ (x : PrunedBits). history ++ (c.number, x) ∷ []) is in
    λ i. record { current = here i; history = kept i; last = last_is i }
