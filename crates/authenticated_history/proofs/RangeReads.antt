-- The siblings of consecutive chunks of the current bitmap or of a version, and that the chunks and the siblings lead to its root.
use Rattle.std.proofs.Common.{◌≡◌, true, ℕ, zero, suc, ◌+◌, ◌-◌, ◌^◌, ◌<◌, ◌≤◌, List, length, take, drop, map, sym, ap, subst, ◌∙◌, arith}
use Rattle.std.specs.List.{range_with_len}
use Rattle.std.specs.Prelude.{⊤, Some, IfOk, IfSome, Result, nat_le, nat_lt}
use Rattle.std.proofs.lemmas.Bool.{and_parts, leb-true, ltb-true}
use Rattle.std.proofs.lemmas.List.{drop-map, length-map}
use Rattle.std.proofs.lemmas.List.FromFn.{length-range_with_len, take-map-range_with_len}
use Rattle.std.proofs.lemmas.Option.{same_Some}
use Rattle.std.proofs.lemmas.Result.{IfOk-weaker}
use Rattle.bitmap_bytes.specs.Chunk.{IsWidth}
use Rattle.bitmap_core.specs.Meaning.{IsLawful, pruned_meaning}
use Rattle.bitmap_core.specs.PrunedBits.{PrunedBits, bit_len, chunk}
use Rattle.historical_bitmap.specs.Changes.{chunk_total}
use Rattle.historical_bitmap.specs.History.{kept_under}
use Rattle.historical_bitmap.specs.Replaced.{retained_chunks}
use Rattle.historical_bitmap.specs.View.{history_of}
use Rattle.authenticated_bitmap.specs.LeafDigests.{Authenticates, bitmap_of}
use Rattle.authenticated_bitmap.specs.Range.{RangeLeadsTo, range_siblings}
use Rattle.authenticated_bitmap.specs.Root.{chunk_digests, root_of}
use Rattle.authenticated_bitmap.proofs.Bitmaps.{authenticated_is_bitmap}
use Rattle.authenticated_bitmap.proofs.RangeRoots.{shows_ranges}
use Rattle.authenticated_history.specs.Ranges.{has_range}
use Rattle.authenticated_history.specs.Versions.{Authenticated, Follows, version_of}
use Rattle.authenticated_history.proofs.StoredReads.{authenticated_there}

-- what the code tests
pub range_there : (first count total : ℕ) → true ≡ has_range first count total → (0 < count) × (first + count ≤ total)
range_there first count total e =
    let parts = and_parts (nat_lt 0 count) (nat_le (first + count) total) (sym e) in
    (ltb-true 0 count parts.0, leb-true (first + count) total parts.1)

drop_range : (d a n : ℕ) → drop d (range_with_len a n) ≡ range_with_len (a + d) (n - d)
drop_range zero a n =
    let e : a ≡ a + 0 = omega arith in
    let m : n ≡ n - 0 = omega arith in
    ap (λ b. range_with_len b n) e ∙ ap (λ k. range_with_len (a + 0) k) m
drop_range (suc d) a zero =
    let z : 0 ≡ 0 - suc d = omega arith in
    ap (λ k. range_with_len (a + suc d) k) z
drop_range (suc d) a (suc n) =
    let e : a + 1 + d ≡ a + suc d = omega arith in
    let m : n - d ≡ suc n - suc d = omega arith in
    drop_range d (a + 1) n ∙ ap (λ b. range_with_len b (n - d)) e ∙ ap (λ k. range_with_len (a + suc d) k) m

-- a part of a list that is made from a function of the index
part : {X : Type 0} (f : ℕ → X) (from size first count : ℕ) → from ≤ first → first - from + count ≤ size → take count (drop (first - from) (map f (range_with_len from size))) ≡ map f (range_with_len first count)
part f from size first count low within =
    let e : from + (first - from) ≡ first = omega (arith, low) in
    ap (take count) (drop-map f (first - from) (range_with_len from size) ∙ ap (map f) (drop_range (first - from) from size))
    ∙ take-map-range_with_len f (from + (first - from)) (size - (first - from)) count (omega (arith, within))
    ∙ ap (λ a. map f (range_with_len a count)) e

-- retained chunks and their siblings lead to the root
range_shown : (H : List ℕ → List ℕ) (n : ℕ) (s t : PrunedBits) → IsWidth n → bit_len n s < 2 ^ 64 → Authenticates H n s t → (first count : ℕ) → s.pruned ≤ first → 0 < count → first + count ≤ chunk_total n s
    → RangeLeadsTo H (root_of H (bitmap_of n s t)) (bitmap_of n s t).shape first (map (chunk n s) (range_with_len first count)) (range_siblings H first count (chunk_digests H (bitmap_of n s t)))
range_shown H n s t width small a first count low some within =
    subst (λ k. RangeLeadsTo H (root_of H (bitmap_of n s t)) (bitmap_of n s t).shape k (map (chunk n s) (range_with_len first count)) (range_siblings H k count (chunk_digests H (bitmap_of n s t)))) index
    (subst (λ chunks. RangeLeadsTo H (root_of H (bitmap_of n s t)) (bitmap_of n s t).shape (s.pruned + (first - s.pruned)) chunks (range_siblings H (s.pruned + (first - s.pruned)) count (chunk_digests H (bitmap_of n s t))))
    (part (chunk n s) s.pruned (chunk_total n s - s.pruned) first count low there)
    (shows_ranges H (bitmap_of n s t) (first - s.pruned) count (authenticated_is_bitmap H n s t width small a) some inside))
  where
    index : s.pruned + (first - s.pruned) ≡ first
    index = omega (arith, low)

    there : first - s.pruned + count ≤ chunk_total n s - s.pruned
    there = omega (arith, low, within, some)

    inside : first - s.pruned + count ≤ length (bitmap_of n s t).chunks
    inside = omega (arith, length-map (retained_chunks n s) (chunk n s), length-range_with_len s.pruned (chunk_total n s - s.pruned), there)

-- the same of siblings that a call returns
pub range_shows : {X E : Type 0} (items : X → List (List ℕ)) (r : Result X E) (H : List ℕ → List ℕ) (n : ℕ) (s t : PrunedBits) → IsWidth n → bit_len n s < 2 ^ 64 → Authenticates H n s t → (first count : ℕ)
    → IfOk r (λ x. items x ≡ range_siblings H first count (chunk_digests H (bitmap_of n s t))) → s.pruned ≤ first → 0 < count → first + count ≤ chunk_total n s
    → IfOk r (λ x. RangeLeadsTo H (root_of H (bitmap_of n s t)) (bitmap_of n s t).shape first (map (chunk n s) (range_with_len first count)) (items x))
range_shows items r H n s t width small a first count is low some within =
    IfOk-weaker r (λ x. items x ≡ range_siblings H first count (chunk_digests H (bitmap_of n s t)))
    (λ x. RangeLeadsTo H (root_of H (bitmap_of n s t)) (bitmap_of n s t).shape first (map (chunk n s) (range_with_len first count)) (items x))
    (λ x e. subst (λ siblings. RangeLeadsTo H (root_of H (bitmap_of n s t)) (bitmap_of n s t).shape first (map (chunk n s) (range_with_len first count)) siblings) (sym e)
    (range_shown H n s t width small a first count low some within)) is

-- a version that is kept under a number
module _ {D : Type 0} (H : List ℕ → List ℕ) (n number : ℕ) (v : Authenticated D ⊤) (s t : PrunedBits) (f : Follows H n v.bits v.digests) (width : IsWidth n) (lawful : IsLawful n (pruned_meaning n s)) (s_is : Some s ≡ kept_under (history_of n v.bits) number) (t_is : Some t ≡ kept_under (history_of 32 v.digests) number) where
  pub version_shows_range : (first count : ℕ) (siblings : List (List ℕ)) → 0 < count → first + count ≤ chunk_total n s → siblings ≡ range_siblings H first count (chunk_digests H (bitmap_of n s t))
      → (r : PrunedBits) → kept_under (history_of n v.bits) number ≡ Some r → r.pruned ≤ first
      → IfSome (version_of n v number) (λ b. RangeLeadsTo H (root_of H b) b.shape first (map (chunk n r) (range_with_len first count)) siblings)
  version_shows_range first count siblings some within siblings_are r r_is low =
      let a = authenticated_there H n number v s t f width lawful s_is t_is in
      let same : s ≡ r = same_Some s r (s_is ∙ r_is) in
      let from : s.pruned ≤ first = subst (λ q. q.pruned ≤ first) (sym same) low in
      rw (sym s_is, sym t_is)
      (subst (λ q. RangeLeadsTo H (root_of H (bitmap_of n s t)) (bitmap_of n s t).shape first (map (chunk n q) (range_with_len first count)) siblings) same
      (subst (λ x. RangeLeadsTo H (root_of H (bitmap_of n s t)) (bitmap_of n s t).shape first (map (chunk n s) (range_with_len first count)) x) (sym siblings_are)
      (range_shown H n s t width lawful.len_fits a first count from some within)))
