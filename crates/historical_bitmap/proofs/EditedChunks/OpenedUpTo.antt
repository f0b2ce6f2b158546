-- Chunks that are opened up to an index, past which there is none.
use Rattle.std.proofs.Common.{◌≡◌, ℕ, ◌+◌, ◌<◌, ◌≤◌, Bool, true, false, List, Some, None, refl, sym, ap, ◌∙◌, subst, arith}
use mathlib.Core.Logic.{inl, inr, ◌⊎◌}
use Rattle.std.proofs.lemmas.Bool.{cases_Bool, cases_lt, lt-ltb, le-ltb}
use Rattle.std.specs.Prelude.{nat_eq, Option, IsSome, unwrap_or}
use Rattle.std.specs.List.Sorted.{IsStrictlySortedBy}
use Rattle.std.specs.Map.{keys_of, lookup}
use Rattle.std.specs.Ordering.{nat_cmp}
use Rattle.std.specs.Set.{is_member}
use Rattle.chunk_map.specs.Entries.{Puts}
use Rattle.historical_bitmap.specs.Edits.{from_to}
use Rattle.historical_bitmap.specs.Lengths.{OpensChunks}
use Rattle.historical_bitmap.specs.Pending.{DropsFrom, PutsEach}
use Rattle.historical_bitmap.proofs.EditedChunks.ManyChunks.{puts_more}
use Rattle.historical_bitmap.proofs.Lists.Between.{range_more, range_none}
use Rattle.historical_bitmap.proofs.Lists.Maps.{same_entries}
use Rattle.historical_bitmap.proofs.Lists.Members.{from_to_member, member_from_to}

-- no chunk is opened
pub none_opened : (es : List (ℕ × List ℕ)) (first : ℕ) (chunk : ℕ → Option (List ℕ)) → PutsEach es es (from_to first first) chunk
none_opened es first chunk q = rw (range_none first) refl

-- one more chunk is opened
pub one_opened : (es fs gs : List (ℕ × List ℕ)) (first i : ℕ) (chunk : ℕ → Option (List ℕ)) → first ≤ i → PutsEach es fs (from_to first i) chunk → Puts fs gs i (chunk i) → PutsEach es gs (from_to first (i + 1)) chunk
one_opened es fs gs first i chunk low each put = rw (range_more first i low) (puts_more es fs gs (from_to first i) i chunk each put)

-- a chunk that is opened, and one that is not
pub opened_at : (es fs : List (ℕ × List ℕ)) (first past q : ℕ) (chunk : ℕ → Option (List ℕ)) → PutsEach es fs (from_to first past) chunk → first ≤ q → q < past → lookup (nat_eq q) fs ≡ chunk q
opened_at es fs first past q chunk each low high = each q ∙ rw (from_to_member first past q low high) refl

pub beside_opened : (es fs : List (ℕ × List ℕ)) (first past q : ℕ) (chunk : ℕ → Option (List ℕ)) → PutsEach es fs (from_to first past) chunk → (q < first) ⊎ (past ≤ q) → lookup (nat_eq q) fs ≡ lookup (nat_eq q) es
beside_opened es fs first past q chunk each side = elim (cases_Bool (is_member nat_eq (from_to first past) q)) [
  | inl m ↦ let within = member_from_to first past q m in absurd (elim side [ inl h ↦ omega (arith, h, within.0) | inr h ↦ omega (arith, h, within.1) ])
  | inr m ↦ each q ∙ rw m refl
]

-- opened chunks that are dropped again leave the entries unchanged
pub opened_and_dropped : (es fs gs : List (ℕ × List ℕ)) (first past : ℕ) (chunk : ℕ → Option (List ℕ)) → IsStrictlySortedBy nat_cmp (keys_of es) → IsStrictlySortedBy nat_cmp (keys_of gs) → ((q : ℕ) → first ≤ q → lookup (nat_eq q) es ≡ None)
    → PutsEach es fs (from_to first past) chunk → DropsFrom fs gs first → gs ≡ es
opened_and_dropped es fs gs first past chunk s t none each dropped = same_entries gs es t s (λ q. elim (cases_lt q first) [
  | inl h ↦ dropped q ∙ (rw (lt-ltb q first h) (beside_opened es fs first past q chunk each (inl h)))
  | inr h ↦ dropped q ∙ (rw (le-ltb q first h) (sym (none q h)))
])

-- ---- the chunk at the first index is there, or is opened too
module _ (other : ℕ → List ℕ) (es fs : List (ℕ × List ℕ)) (first past : ℕ) (last : (q : ℕ) → first < q → lookup (nat_eq q) es ≡ None) where
  -- a chunk from an index on is opened if there was none, and each chunk before it was there
  opens_from : (start : ℕ) → first ≤ start → ((q : ℕ) → start ≤ q → lookup (nat_eq q) es ≡ None) → ((q : ℕ) → first ≤ q → q < start → lookup (nat_eq q) es ≡ Some (unwrap_or (lookup (nat_eq q) es) (other q))) → PutsEach es fs (from_to start past) (λ q. Some (other q)) → OpensChunks other es fs first past
  opens_from start low absent there each q = elim (cases_Bool (is_member nat_eq (from_to first past) q)) [
    | inl m ↦
        let within = member_from_to first past q m in
        rw m (elim (cases_lt q start) [
          | inl h ↦ beside_opened es fs start past q (λ k. Some (other k)) each (inl h) ∙ there q within.0 h
          | inr h ↦ opened_at es fs start past q (λ k. Some (other k)) each h within.1 ∙ sym (ap (λ o. Some (unwrap_or o (other q))) (absent q h))
        ])
    | inr m ↦ rw m (elim (cases_Bool (is_member nat_eq (from_to start past) q)) [
      | inl k ↦ let within = member_from_to start past q k in absurd (not_both (is_member nat_eq (from_to first past) q) (from_to_member first past q (omega (arith, low, within.0)) within.1) m)
      | inr k ↦ each q ∙ rw k refl
    ])
  ]
    where
      not_both : (b : Bool) → b ≡ true → b ≡ false → ⊥
      not_both b e f = cc

  pub opens_rest : IsSome (lookup (nat_eq first) es) → PutsEach es fs (from_to (first + 1) past) (λ q. Some (other q)) → OpensChunks other es fs first past
  opens_rest some each = opens_from (first + 1) (omega arith) (λ q h. last q (omega (arith, h))) (λ q l h. let e : first ≡ q = omega (arith, l, h) in there q (lookup (nat_eq q) es) (subst (λ (k : ℕ). IsSome (lookup (nat_eq k) es)) e some)) each
    where
      there : (q : ℕ) (o : Option (List ℕ)) → IsSome o → o ≡ Some (unwrap_or o (other q))
      there q None h = absurd (cc h)
      there q (Some x) h = refl

  pub opens_all : lookup (nat_eq first) es ≡ None → PutsEach es fs (from_to first past) (λ q. Some (other q)) → OpensChunks other es fs first past
  opens_all none each = opens_from first (omega arith) absent (λ q l h. absurd (omega (arith, l, h))) each
    where
      absent : (q : ℕ) → first ≤ q → lookup (nat_eq q) es ≡ None
      absent q h = elim (cases_lt first q) [
        | inl more ↦ last q more
        | inr up ↦ let e : first ≡ q = omega (arith, h, up) in subst (λ (k : ℕ). lookup (nat_eq k) es ≡ None) e none
      ]
