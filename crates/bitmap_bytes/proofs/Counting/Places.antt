-- How many positions pass a test, and whether none does.
use Rattle.std.proofs.Common.{◌≡◌, ℕ, suc, zero, count_ones, ◌+◌, ◌-◌, ◌*◌, ◌/◌, ◌^◌, ◌<◌, ◌≤◌, List, get_or, drop, eqb, cond, Bool, true, false, not, ◌&&◌, length, [], ◌∷◌, map, sym, ap, ◌∙◌, refl, inl, inr, arith}
use Rattle.std.specs.Int.{bit_at}
use Rattle.std.specs.List.{range_with_len, count_by, list_all, slice_range}
use lib.Count.{ones-le}
use Rattle.std.proofs.Math.Nat.{div-one}
use Rattle.std.proofs.lemmas.Nat.{zero_from_ones}
use Rattle.std.proofs.lemmas.List.{ext_get_or, get_or-drop, get_or-take, length-take, length-drop}
use Rattle.std.proofs.lemmas.List.FromFn.{length-map-range_with_len, get_or-map-range_with_len}
use Rattle.std.proofs.lemmas.List.Sums.{sum_by-cons}
use Rattle.std.proofs.lemmas.Bool.{cases_lt, eqb-true}
use Rattle.std.proofs.lemmas.Bool.Decides.{nat_tests}
use Rattle.bitmap_bytes.specs.Bits.{chunks_bit, bits, IsChunkCount, IsZeroFrom}
use Rattle.bitmap_bytes.proofs.Lists.Bits.{get_or-bits, len_is}
use Rattle.bitmap_bytes.proofs.Counting.Ones.{ones_from, ones_from_all, ones_from_add, ones_from_same, ones_from_none, ones_bits, count-bits}

pub ones_from_mono : (f : ℕ → Bool) (m k : ℕ) → m ≤ k → ones_from f 0 m ≤ ones_from f 0 k
ones_from_mono f m k h =
    let e : m + (k - m) ≡ k = omega arith in
    let s = ap (λ x. ones_from f 0 x) (sym e) ∙ ones_from_add f 0 m (k - m) in
    omega arith

-- if no position passes, the count is 0
pub ones_from_clear : (f : ℕ → Bool) (a k : ℕ) → ((t : ℕ) → t < k → f (a + t) ≡ false) → ones_from f a k ≡ 0
ones_from_clear f a k h = ones_from_same f (λ _. false) a 0 k h ∙ ones_from_none (λ _. false) 0 k (λ _ _. refl)

-- the count from a to c, by way of b
pub ones_from_split : (f : ℕ → Bool) (a b c : ℕ) → a ≤ b → b ≤ c → ones_from f a (c - a) ≡ ones_from f a (b - a) + ones_from f b (c - b)
ones_from_split f a b c h s =
    let e : c - a ≡ (b - a) + (c - b) = omega arith in
    let m : a + (b - a) ≡ b = omega arith in
    ap (λ x. ones_from f a x) e ∙ ones_from_add f a (b - a) (c - b) ∙ ap (λ x. ones_from f a (b - a) + ones_from f x (c - b)) m

none_step : (b r : Bool) (n : ℕ) → r ≡ eqb n 0 → not b && r ≡ eqb (cond b 1 0 + n) 0
none_step true r n e = grind (arith, nat_tests)
none_step false r n e = e ∙ (let z : n ≡ 0 + n = omega arith in ap (λ x. eqb x 0) z)

-- whether no position passes, as a count
pub none_from : (f : ℕ → Bool) (a k : ℕ) → list_all (λ t. not (f t)) (range_with_len a k) ≡ eqb (ones_from f a k) 0
none_from f a zero = refl
none_from f a (suc k) = none_step (f a) (list_all (λ t. not (f t)) (range_with_len (a + 1) k)) (ones_from f (a + 1) k) (none_from f (a + 1) k)

pub none_map : (f : ℕ → Bool) (a k : ℕ) → list_all not (map f (range_with_len a k)) ≡ eqb (ones_from f a k) 0
none_map f a zero = refl
none_map f a (suc k) = none_step (f a) (list_all not (map f (range_with_len (a + 1) k))) (ones_from f (a + 1) k) (none_map f (a + 1) k)

pub count_map : (f : ℕ → Bool) (a k : ℕ) → count_by (λ b. b) (map f (range_with_len a k)) ≡ ones_from f a k
count_map f a zero = refl
count_map f a (suc k) = sum_by-cons (λ b. cond b 1 0) (f a) (map f (range_with_len (a + 1) k)) ∙ ap (λ x. cond (f a) 1 0 + x) (count_map f (a + 1) k)

slice_is : (v : List Bool) (f : ℕ → Bool) (a b : ℕ) → b ≤ length v → ((i : ℕ) → i < b → get_or v i false ≡ f i)
    → slice_range v a b ≡ map f (range_with_len a (b - a))
slice_is v f a b l h =
    let m = length-map-range_with_len f a (b - a) in
    let d = length-drop {A = Bool} a v in
    let t = length-take {A = Bool} (b - a) (drop a v) in
    let s : length (slice_range v a b) ≡ b - a = omega arith in
    ext_get_or false (slice_range v a b) (map f (range_with_len a (b - a))) (s ∙ sym m) (λ i w.
    let u : i < b - a = omega arith in
    get_or-take (b - a) (drop a v) i false u
    ∙ get_or-drop a v i false
    ∙ h (a + i) (omega arith)
    ∙ sym (get_or-map-range_with_len f a (b - a) i (a + i) false u refl))

-- whether no bit of a range of a list is set, as a count
pub none_slice : (v : List Bool) (f : ℕ → Bool) (a b : ℕ) → b ≤ length v → ((i : ℕ) → i < b → get_or v i false ≡ f i)
    → list_all not (slice_range v a b) ≡ eqb (ones_from f a (b - a)) 0
none_slice v f a b l h = ap (λ x. list_all not x) (slice_is v f a b l h) ∙ none_map f a (b - a)

pub none_bits : (n : ℕ) (chunks : List (List ℕ)) (len : ℕ) → list_all not (bits n chunks len) ≡ eqb (ones_from (chunks_bit n chunks) 0 len) 0
unfolding bits
none_bits n chunks len = none_map (chunks_bit n chunks) 0 len

-- if one of the first m positions passes, the count of more positions is not 0
pub found : (f : ℕ → Bool) (m k : ℕ) → m ≤ k → 0 < ones_from f 0 m → eqb (ones_from f 0 k) 0 ≡ false
found f m k h s = let o = ones_from_mono f m k h in grind (arith, nat_tests)

one_or_none : (b : Bool) → cond (not b) 1 0 + cond b 1 0 ≡ 1
one_or_none true = refl
one_or_none false = refl

count_both : (v : List Bool) → count_by not v + count_by (λ b. b) v ≡ length v
count_both [] = refl
count_both (b ∷ v) = omega (arith, sum_by-cons (λ b. cond (not b) 1 0) b v, sum_by-cons (λ b. cond b 1 0) b v, one_or_none b, count_both v)

-- the number of zeros of a list is its length less the number of its ones
pub count-not : (v : List Bool) → count_by not v ≡ length v - count_by (λ b. b) v
count-not v = omega (arith, count_both v)

-- the ones of a number, after the positions before them
pub more_ones : (f : ℕ → Bool) (w a k : ℕ) → w < 2 ^ k → ((t : ℕ) → t < k → eqb (bit_at w t) 1 ≡ f (a + t))
    → ones_from f 0 a + count_ones w ≡ ones_from f 0 (a + k)
more_ones f w a k h e =
    let z : w / 2 ^ 0 ≡ w = div-one w in
    let s : count_ones w ≡ ones_from (λ t. eqb (bit_at w t) 1) 0 k = ap count_ones (sym z) ∙ ones_bits w 0 k (rw z h) in
    let t : ones_from (λ t. eqb (bit_at w t) 1) 0 k ≡ ones_from f a k =
    ones_from_same (λ t. eqb (bit_at w t) 1) f 0 a k (λ t l. (let y : 0 + t ≡ t = omega arith in ap (λ x. eqb (bit_at w x) 1) y) ∙ e t l) in
    let o : 0 + a ≡ a = omega arith in
    let r = ones_from_add f 0 a k ∙ ap (λ x. ones_from f 0 a + ones_from f x k) o in
    omega arith

-- a number is zero if and only if it has no ones
pub ones_of_zero : (n : ℕ) → n ≡ 0 → count_ones n ≡ 0
ones_of_zero n h = let p : n < 2 ^ 0 = omega arith in let l = ones-le 0 n p in omega arith

pub ones_of_other : (n : ℕ) → (n ≡ 0 → ⊥) → 0 < count_ones n
ones_of_other n h = elim (cases_lt 0 (count_ones n)) [
  | inl s ↦ s
  | inr s ↦ absurd (h (zero_from_ones n (omega arith)))
]

-- ---- sums that are zero

-- whether a sum of two counts is zero
pub rest_zero : (a b c : ℕ) → a ≡ b + c → eqb b 0 ≡ true → eqb c 0 ≡ eqb a 0
rest_zero a b c e h = let z : b ≡ 0 = eqb-true b 0 h in ap (λ x. eqb x 0) (omega arith)

pub some_left : (a b c : ℕ) → a ≡ b + c → eqb b 0 ≡ false → eqb a 0 ≡ false
some_left a b c e h = grind (arith, nat_tests)

pub some_right : (a b c : ℕ) → a ≡ b + c → eqb c 0 ≡ false → eqb a 0 ≡ false
some_right a b c e h = grind (arith, nat_tests)

-- ---- the bits of a bitmap

-- bits past the length do not count
pub count-whole : (n : ℕ) (chunks : List (List ℕ)) (len : ℕ) (v : List Bool) → bits n chunks len ≡ v
    → IsChunkCount n (length chunks) len → IsZeroFrom n chunks len
    → count_by (λ b. b) (bits n chunks (8 * n * length chunks)) ≡ count_by (λ b. b) v
count-whole n chunks len v e k z =
    count-bits n chunks (8 * n * length chunks)
    ∙ ones_from_all (chunks_bit n chunks) len (8 * n * length chunks) k.0 z
    ∙ sym (count-bits n chunks len)
    ∙ ap (λ (x : List Bool). count_by (λ b. b) x) e

pub none_range : (n : ℕ) (chunks : List (List ℕ)) (len : ℕ) (v : List Bool) (a b : ℕ) → bits n chunks len ≡ v → b ≤ length v
    → list_all (λ i. not (chunks_bit n chunks i)) (range_with_len a (b - a)) ≡ list_all not (slice_range v a b)
none_range n chunks len v a b e h =
    let l = len_is n chunks len v e in
    none_from (chunks_bit n chunks) a (b - a)
    ∙ sym (none_slice v (chunks_bit n chunks) a b h (λ i s. ap (λ x. get_or x i false) (sym e) ∙ get_or-bits n chunks len i false (omega arith)))
