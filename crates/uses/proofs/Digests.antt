-- Digests of the chunks of two versions: those of chunks that do not differ are the same, and the others are written one by one.
use Rattle.std.proofs.Common.{◌≡◌, ℕ, ◌+◌, ◌<◌, ◌≤◌, false, List, [], ◌∷◌, ◌++◌, length, map, ap, sym, ◌∙◌, arith, get_or}
use mathlib.Core.Logic.{inl, inr}
use Rattle.std.proofs.lemmas.Bool.{cases_eq, cases_lt, ne_eqb, not-false}
use Rattle.std.proofs.lemmas.List.{ext_get_or, get_or-set_other, get_or-set_same, length-set}
use Rattle.std.proofs.lemmas.List.FromFn.{get_or-map-range_with_len, length-map-range_with_len, map-range_with_len_more}
use Rattle.std.specs.List.{range_with_len}
use Rattle.std.specs.Option.{option_map}
use Rattle.std.specs.Prelude.{Option, None, nat_eq, slice_index_or, slice_set}
use Rattle.std.specs.Set.{is_member}
use Rattle.bitmap_core.specs.PrunedBits.{PrunedBits}
use Rattle.historical_bitmap.specs.Changes.{chunk_total, differs, retained_bytes}
use Rattle.historical_bitmap.proofs.Changes.Patched.{past_total, same_option}
use Rattle.uses.specs.Digests.{digest_at, digests_of}

module _ (n : ℕ) (digest : List ℕ → ℕ) (new : PrunedBits) where
  -- each digest is that of the new version, except those of the chunks that are left
  abbrev pub IsDoneBut : List ℕ → List (Option ℕ) → Type 0
  IsDoneBut left items = (i : ℕ) → i < length items → is_member nat_eq left i ≡ false → slice_index_or items i None ≡ digest_at n digest new i

  -- the items after they are cut, or filled up with `None`, to the number of chunks of the new version
  pub resized : (old : PrunedBits) (before items : List (Option ℕ)) (changes : List ℕ) → 0 < n → before ≡ digests_of n digest old
      → ((i : ℕ) → i < length items → i < length before → slice_index_or items i None ≡ slice_index_or before i None)
      → ((i : ℕ) → length before ≤ i → i < length items → slice_index_or items i None ≡ None)
      → ((i : ℕ) → is_member nat_eq changes i ≡ differs n old new i)
      → IsDoneBut changes items
  resized old before items changes pos e kept filled exactly i h out = elim (cases_lt i (length before)) [
    | inl l ↦ kept i h l ∙ (ap (λ xs. get_or xs i None) e ∙ (get_or-map-range_with_len (digest_at n digest old) 0 (chunk_total n old) i i None (omega (arith, l, total)) (omega arith) ∙ same))
    | inr m ↦ filled i m h ∙ (sym (ap (option_map digest) (past_total n old i pos (omega (arith, m, total)))) ∙ same)
  ]
    where
      total : length before ≡ chunk_total n old
      total = ap length e ∙ length-map-range_with_len (digest_at n digest old) 0 (chunk_total n old)

      same : digest_at n digest old i ≡ digest_at n digest new i
      same = ap (option_map digest) (same_option (retained_bytes n old i) (retained_bytes n new i) (not-false _ (sym (exactly i) ∙ out)))

  -- a chunk is no longer left, since its digest is written
  pub written : (left rest : List ℕ) (items : List (Option ℕ)) (i : ℕ) (d : Option ℕ) → left ≡ i ∷ rest → i < length items → d ≡ digest_at n digest new i → IsDoneBut left items → IsDoneBut rest (slice_set items i d)
  written left rest items i d e h is done j k out = elim (cases_eq j i) [
    | inl same ↦ ap (λ (m : ℕ). get_or (slice_set items i d) m None) same ∙ (get_or-set_same items i d None h ∙ (is ∙ ap (digest_at n digest new) (sym same)))
    | inr ne ↦ get_or-set_other items i j d None ne ∙ done j (omega (arith, k, length-set items i d)) (ap (λ xs. is_member nat_eq xs j) e ∙ rw (ne_eqb j i ne) out)
  ]

  -- a chunk is no longer left, since the new version has none at its index
  pub skipped : (left rest : List ℕ) (items : List (Option ℕ)) (i : ℕ) → left ≡ i ∷ rest → length items ≤ i → IsDoneBut left items → IsDoneBut rest items
  skipped left rest items i e past done j k out =
      let ne : j ≡ i → ⊥ = λ s. omega (arith, s, k, past) in
      done j k (ap (λ xs. is_member nat_eq xs j) e ∙ rw (ne_eqb j i ne) out)

  -- if none is left, the items are the digests of the new version
  pub finished : (left : List ℕ) (items : List (Option ℕ)) → left ≡ [] → length items ≡ chunk_total n new → IsDoneBut left items → items ≡ digests_of n digest new
  finished left items e size done = ext_get_or None items (digests_of n digest new) (size ∙ sym (length-map-range_with_len (digest_at n digest new) 0 (chunk_total n new)))
      (λ i h. done i h (ap (λ xs. is_member nat_eq xs i) e) ∙ sym (get_or-map-range_with_len (digest_at n digest new) 0 (chunk_total n new) i i None (omega (arith, h, size)) (omega arith)))

-- one more digest is appended
pub appended : (n : ℕ) (digest : List ℕ → ℕ) (b : PrunedBits) (items more : List (Option ℕ)) (k : ℕ) (d : Option ℕ) → more ≡ items ++ d ∷ [] → items ≡ map (digest_at n digest b) (range_with_len 0 k) → d ≡ digest_at n digest b k → more ≡ map (digest_at n digest b) (range_with_len 0 (k + 1))
appended n digest b items more k d e before is =
    e ∙ (ap (λ xs. xs ++ d ∷ []) before ∙ (ap (λ x. map (digest_at n digest b) (range_with_len 0 k) ++ x ∷ []) is ∙ sym (map-range_with_len_more (digest_at n digest b) 0 k k (omega arith))))
