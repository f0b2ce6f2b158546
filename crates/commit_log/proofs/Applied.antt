-- A change that is applied makes the newer state.
use Rattle.std.proofs.Common.{◌≡◌, ℕ, ◌*◌, ◌/◌, ◌<◌, Bool, cond, ◌||◌, List, [], ◌∷◌, ◌++◌, refl, sym, ap, ◌∙◌, inl, inr, Option, Some, None, Result, Ok, Err, IfOk}
use Rattle.std.specs.Prelude.{nat_eq}
use Rattle.std.specs.Map.{lookup}
use Rattle.std.specs.Set.{is_member}
use Rattle.std.proofs.lemmas.Bool.{cases_Bool, eqb-true}
use Rattle.std.proofs.lemmas.Option.{none-some, same_Some}
use Rattle.bitmap_core.specs.PrunedBits.{PrunedBits, bit_at, bit_len, chunk, IsRetained}
use Rattle.bitmap_core.proofs.Pruned.Positions.{same_from_bits, bit_from_bits}
use Rattle.historical_bitmap.specs.Changes.{changed, listed, retained_bytes, sent_bytes, with_bytes}
use Rattle.historical_bitmap.specs.Record.{bit_or_else}
use Rattle.historical_bitmap.proofs.Changes.Patched.{patched_changed}
use Rattle.historical_bitmap.proofs.Changes.Unnamed.{bytes_there}
use Rattle.historical_bitmap.proofs.Records.Restores.{has_chunk}
use Rattle.historical_bitmap.specs.View.{View, history_of}
use Rattle.commit_log.specs.Entries.Entry.{Commit}
use Rattle.commit_log.specs.Kept.{kept_of, after, change_to, applied}

-- one more chunk in front
step : (n : ℕ) (new : PrunedBits) (x i : ℕ) (found : Option (List ℕ)) (others : List (ℕ × List ℕ)) (member : Bool) → retained_bytes n new x ≡ found
    → retained_bytes n new i ≡ Some (chunk n new i) → lookup (nat_eq i) others ≡ cond member (Some (chunk n new i)) None
    → lookup (nat_eq i) (with_bytes x found others) ≡ cond (nat_eq i x || member) (Some (chunk n new i)) None
step n new x i None others member is there so_far = elim (cases_Bool (nat_eq i x)) [
  | inl e ↦ absurd (none-some (chunk n new i) (sym is ∙ ap (retained_bytes n new) (sym (eqb-true i x e)) ∙ there))
  | inr e ↦ rw e so_far
]
step n new x i (Some bytes) others member is there so_far = elim (cases_Bool (nat_eq i x)) [
  | inl e ↦ rw e (ap Some (same_Some bytes (chunk n new i) (sym is ∙ ap (retained_bytes n new) (sym (eqb-true i x e)) ∙ there)))
  | inr e ↦ rw e so_far
]

-- the bytes that are sent of a retained chunk
listed_there : (n : ℕ) (new : PrunedBits) (is : List ℕ) (i : ℕ) → retained_bytes n new i ≡ Some (chunk n new i) → lookup (nat_eq i) (listed n new is) ≡ sent_bytes n new is i
listed_there n new [] i there = refl
listed_there n new (x ∷ xs) i there = step n new x i (retained_bytes n new x) (listed n new xs) (is_member nat_eq xs i) refl there (listed_there n new xs i there)

pub applied_change : (n number : ℕ) (old new : PrunedBits) → 0 < n → applied n old (change_to n number old new) ≡ new
applied_change n number old new pos =
    same_from_bits n new (λ k. bit_or_else n (lookup (nat_eq (k / (8 * n))) (listed n new (changed n old new))) old k) led
  where
    led : (k : ℕ) → IsRetained n new k → bit_or_else n (lookup (nat_eq (k / (8 * n))) (listed n new (changed n old new))) old k ≡ bit_at n new k
    led k has =
        ap (λ (o : Option (List ℕ)). bit_or_else n o old k) (listed_there n new (changed n old new) (k / (8 * n)) (bytes_there n new (k / (8 * n)) (has_chunk n new k pos has)))
        ∙ sym (bit_from_bits n new.pruned (bit_len n new) (λ j. bit_or_else n (sent_bytes n new (changed n old new) (j / (8 * n))) old j) k has.0 has.1)
        ∙ ap (λ (b : PrunedBits). bit_at n b k) (patched_changed n old new pos)

-- ---- the entry of a commit

pub commit_entry : {S E : Type 0} (n number : ℕ) (old new : PrunedBits) (history : List (ℕ × PrunedBits)) (last : Option ℕ) (r : Result (View S) E) → 0 < n
    → IfOk r (λ b. b.current ≡ new) → IfOk r (λ b. history_of n b ≡ history ++ (number, new) ∷ []) → IfOk r (λ b. b.last ≡ Some number)
    → IfOk r (λ b. kept_of n b ≡ after n (record { current = old; history = history; last = last }) (Commit (change_to n number old new)))
commit_entry n number old new history last (Ok b) pos c h l =
    let is : applied n old (change_to n number old new) ≡ new = applied_change n number old new pos in
    let here : b.current ≡ applied n old (change_to n number old new) = c ∙ sym is in
    let past : history_of n b ≡ history ++ (number, applied n old (change_to n number old new)) ∷ [] = h ∙ ap (λ (x : PrunedBits). history ++ (number, x) ∷ []) (sym is) in
    λ i. record { current = here i; history = past i; last = l i }
commit_entry n number old new history last (Err e) pos c h l = tt
