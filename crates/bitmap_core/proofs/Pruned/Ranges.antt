-- Ranges of the retained positions of a bitmap with a pruned prefix.
use Rattle.std.proofs.Common.{◌≡◌, ℕ, ◌+◌, ◌-◌, ◌*◌, ◌<◌, ◌≤◌, Bool, false, not, List, length, get_or, cond, eqb, refl, sym, ap, ◌∙◌, inl, inr, arith}
use Rattle.std.specs.List.{list_all, range_with_len, slice_range}
use Rattle.std.proofs.lemmas.Bool.{cases_lt}
use Rattle.bitmap_bytes.proofs.Counting.Ones.{ones_from, ones_from_same}
use Rattle.bitmap_bytes.proofs.Counting.Places.{none_from, none_slice}
use Rattle.bitmap_core.specs.Ranges.{is_between, set_between}
use Rattle.bitmap_core.specs.PrunedBits.{PrunedBits, pruned_bits, bit_len, bit_at, set_range}
use Rattle.bitmap_core.proofs.Lists.Ranges.{between_in, between_below, between_above, length-set_between, get_or-set_between}
use Rattle.bitmap_core.proofs.Pruned.Positions.{same_bitmap, bit_from_bits, len_from_bits}

-- no bit of an absolute range is set if no bit of that range of the retained bits is
pub none_retained : (n : ℕ) (b : PrunedBits) (from to : ℕ) → pruned_bits n b ≤ from → to ≤ bit_len n b
    → list_all not (slice_range b.bits (from - pruned_bits n b) (to - pruned_bits n b))
    ≡ list_all (λ k. not (bit_at n b k)) (range_with_len from (to - from))
none_retained n b from to l h =
    let own : ℕ → Bool = λ k. get_or b.bits k false in
    let a : ℕ = from - pruned_bits n b in
    let e : to - pruned_bits n b - a ≡ to - from = omega arith in
    none_slice b.bits own a (to - pruned_bits n b) (omega arith) (λ i s. refl)
    ∙ ap (λ k. eqb k 0)
    (ap (λ m. ones_from own a m) e ∙ ones_from_same own (bit_at n b) a from (to - from) (λ t s.
    let q : a + t ≡ from + t - pruned_bits n b = omega arith in
    ap own q))
    ∙ sym (none_from (bit_at n b) from (to - from))

-- a position is in a range if it is when both are counted from the first retained position
between_moved : (p lo hi k : ℕ) → p ≤ lo → p ≤ k → is_between (lo - p) (hi - p) (k - p) ≡ is_between lo hi k
between_moved p lo hi k l h = elim (cases_lt k lo) [
  | inl s ↦ between_below (lo - p) (hi - p) (k - p) (omega arith) ∙ sym (between_below lo hi k s)
  | inr s ↦ elim (cases_lt k hi) [
    | inl t ↦ between_in (lo - p) (hi - p) (k - p) (omega arith) (omega arith) ∙ sym (between_in lo hi k s t)
    | inr t ↦ between_above (lo - p) (hi - p) (k - p) (omega arith) (omega arith) ∙ sym (between_above lo hi k s t)
  ]
]

-- a range of the retained bits is set
pub retained_set : (n : ℕ) (b : PrunedBits) (from to : ℕ) (x : Bool) → pruned_bits n b ≤ from
    → record { pruned = b.pruned; bits = set_between b.bits (from - pruned_bits n b) (to - pruned_bits n b) x } ≡ set_range n b from to x
retained_set n b from to x l =
    let bit : ℕ → Bool = λ k. cond (is_between from to k) x (bit_at n b k) in
    let a : ℕ = from - pruned_bits n b in
    let z : ℕ = to - pruned_bits n b in
    let total = len_from_bits n b.pruned (bit_len n b) bit (omega arith) in
    same_bitmap n (record { pruned = b.pruned; bits = set_between b.bits a z x }) (set_range n b from to x) refl (omega (arith, length-set_between b.bits a z x, total)) (λ k r.
    let s : k < bit_len n b = omega (arith, r.1, total) in
    get_or-set_between b.bits a z x (k - pruned_bits n b) (omega (arith, r.0))
    ∙ ap (λ y. cond y x (get_or b.bits (k - pruned_bits n b) false)) (between_moved (pruned_bits n b) from to k l r.0)
    ∙ sym (bit_from_bits n b.pruned (bit_len n b) bit k r.0 s))

-- the length is the same
pub len_set_range : (n : ℕ) (v : List Bool) (pruned from to : ℕ) (x : Bool) → 8 * n * pruned + length (set_between v from to x) ≡ 8 * n * pruned + length v
len_set_range n v pruned from to x = ap (λ k. 8 * n * pruned + k) (length-set_between v from to x)
