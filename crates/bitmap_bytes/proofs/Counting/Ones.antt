-- How many bits are true in a range of positions, a list, a byte and a word.
use Rattle.std.proofs.Common.{◌≡◌, ℕ, zero, suc, count_ones, ◌+◌, ◌-◌, ◌/◌, ◌%◌, ◌^◌, ◌<◌, ◌≤◌, Bool, true, false, cond, List, [], ◌∷◌, map, eqb, refl, sym, ap, ◌∙◌, inl, inr, arith}
use Rattle.std.specs.List.{range_with_len, count_by}
use Rattle.std.proofs.lemmas.List.Recursion.{is_count_by}
use Rattle.std.specs.Int.{bit_at}
use Rattle.std.proofs.Math.Nat.{div-lt_iff_lt-mul, div-div-eq-div-mul, pow-suc}
use Rattle.std.proofs.lemmas.Nat.{mod_below}
use lib.Count.{ones_step, ones-le}
use Rattle.std.proofs.lemmas.Bool.{cases_lt}
use Rattle.std.proofs.lemmas.Bool.Decides.{nat_tests}
use Rattle.bitmap_bytes.specs.Bits.{chunks_bit, bits}

-- the number of the k positions from a on that pass f
abbrev pub ones_from : (ℕ → Bool) → ℕ → ℕ → ℕ
ones_from f a zero = 0
ones_from f a (suc k) = cond (f a) 1 0 + ones_from f (a + 1) k

-- a range in two parts
pub ones_from_add : (f : ℕ → Bool) (a m k : ℕ) → ones_from f a (m + k) ≡ ones_from f a m + ones_from f (a + m) k
ones_from_add f a zero k =
    let e : zero + k ≡ k = omega arith in
    let s : a ≡ a + zero = omega arith in
    let p : ones_from f a (zero + k) ≡ ones_from f (a + zero) k = ap (λ x. ones_from f a x) e ∙ ap (λ x. ones_from f x k) s in
    omega arith
ones_from_add f a (suc m) k =
    let e : suc m + k ≡ suc (m + k) = omega arith in
    let s : a + 1 + m ≡ a + suc m = omega arith in
    let i = ones_from_add f (a + 1) m k in
    ap (λ x. ones_from f a x) e
    ∙ (let j : ones_from f (a + 1) (m + k) ≡ ones_from f (a + 1) m + ones_from f (a + suc m) k =
    i ∙ ap (λ x. ones_from f (a + 1) m + ones_from f x k) s in
    omega arith)

-- functions that agree on a range count alike
pub ones_from_same : (f g : ℕ → Bool) (a b k : ℕ) → ((t : ℕ) → t < k → f (a + t) ≡ g (b + t)) → ones_from f a k ≡ ones_from g b k
ones_from_same f g a b zero h = refl
ones_from_same f g a b (suc k) h =
    let a0 : a ≡ a + 0 = omega arith in
    let b0 : b + 0 ≡ b = omega arith in
    let z : f a ≡ g b = ap f a0 ∙ h 0 (omega arith) ∙ ap g b0 in
    let a1 : (t : ℕ) → a + 1 + t ≡ a + (t + 1) = λ t. omega arith in
    let b1 : (t : ℕ) → b + (t + 1) ≡ b + 1 + t = λ t. omega arith in
    let r = ones_from_same f g (a + 1) (b + 1) k (λ t s. ap f (a1 t) ∙ h (t + 1) (omega arith) ∙ ap g (b1 t)) in
    ap (λ x. cond x 1 0 + ones_from f (a + 1) k) z ∙ ap (λ x. cond (g b) 1 0 + x) r

pub ones_from_none : (f : ℕ → Bool) (a k : ℕ) → ((t : ℕ) → a ≤ t → f t ≡ false) → ones_from f a k ≡ 0
ones_from_none f a zero h = refl
ones_from_none f a (suc k) h =
    ap (λ x. cond x 1 0 + ones_from f (a + 1) k) (h a (omega arith)) ∙ (let r = ones_from_none f (a + 1) k (λ t s. h t (omega arith)) in omega arith)

cond_le : (b : Bool) → cond b 1 0 ≤ 1
cond_le true = omega arith
cond_le false = omega arith

pub ones_from_le : (f : ℕ → Bool) (a k : ℕ) → ones_from f a k ≤ k
ones_from_le f a zero = omega arith
ones_from_le f a (suc k) = omega (arith, ones_from_le f (a + 1) k, cond_le (f a))

-- if no position from len on passes, at most len positions do
pub ones_from_bound : (f : ℕ → Bool) (len m : ℕ) → ((t : ℕ) → len ≤ t → f t ≡ false) → ones_from f 0 m ≤ len
ones_from_bound f len m h = elim (cases_lt len m) [
  | inl s ↦ (let e : len + (m - len) ≡ m = omega arith in
      let q : ones_from f 0 m ≡ ones_from f 0 len + ones_from f (0 + len) (m - len) =
      ap (λ x. ones_from f 0 x) (sym e)
      ∙ ones_from_add f 0 len (m - len) in
      omega (arith, q, ones_from_le f 0 len, ones_from_none f (0 + len) (m - len) (λ t w. h t (omega arith))))
  | inr s ↦ omega (arith, ones_from_le f 0 m)
]

pub ones_from_all : (f : ℕ → Bool) (len m : ℕ) → len ≤ m → ((t : ℕ) → len ≤ t → f t ≡ false) → ones_from f 0 m ≡ ones_from f 0 len
ones_from_all f len m s h =
    let e : len + (m - len) ≡ m = omega arith in
    ap (λ x. ones_from f 0 x) (sym e)
    ∙ ones_from_add f 0 len (m - len)
    ∙ omega (arith, ones_from_none f (0 + len) (m - len) (λ t w. h t (omega arith)))

-- the number of ones of a number is the number of its set bits
bit_worth : (m : ℕ) → m < 2 → m ≡ cond (eqb m 1) 1 0
bit_worth m h = grind (arith, nat_tests)

-- the number of ones of a number is the number of positions at which it has a one
pub ones_bits : (n a k : ℕ) → n / 2 ^ a < 2 ^ k → count_ones (n / 2 ^ a) ≡ ones_from (λ t. eqb (bit_at n t) 1) a k
ones_bits n a zero h = let l = ones-le 0 (n / 2 ^ a) h in omega arith
ones_bits n a (suc k) h =
    let e : suc a ≡ a + 1 = omega arith in
    let s : n / 2 ^ a / 2 ≡ n / 2 ^ (a + 1) = div-div-eq-div-mul n (2 ^ a) 2 ∙ ap (λ x. n / x) (sym (pow-suc 2 a) ∙ ap (λ k. 2 ^ k) e) in
    let l : n / 2 ^ (a + 1) < 2 ^ k = rw (← s) ((div-lt_iff_lt-mul {k = 2} {x = n / 2 ^ a} {y = 2 ^ k} (omega arith)).1 (rw (← pow-suc 2 k) h)) in
    let i = ones_bits n (a + 1) k l in
    let w : n / 2 ^ a % 2 ≡ cond (eqb (bit_at n a) 1) 1 0 = bit_worth (n / 2 ^ a % 2) (mod_below (n / 2 ^ a) 2 (omega arith)) in
    ones_step (n / 2 ^ a)
    ∙ ap (λ x. x + count_ones (n / 2 ^ a / 2)) w
    ∙ ap (λ x. cond (eqb (bit_at n a) 1) 1 0 + count_ones x) s
    ∙ ap (λ x. cond (eqb (bit_at n a) 1) 1 0 + x) i

trues : List Bool → ℕ
trues [] = 0
trues (b ∷ bs) = cond b (1 + trues bs) (trues bs)

trues_step : (b : Bool) (n : ℕ) → cond b (1 + n) n ≡ cond b 1 0 + n
trues_step true n = refl
trues_step false n = omega arith

trues-map : (f : ℕ → Bool) (a k : ℕ) → trues (map f (range_with_len a k)) ≡ ones_from f a k
unfolding trues
trues-map f a zero = refl
trues-map f a (suc k) = trues_step (f a) (trues (map f (range_with_len (a + 1) k))) ∙ ap (λ x. cond (f a) 1 0 + x) (trues-map f (a + 1) k)

pub count-bits : (n : ℕ) (chunks : List (List ℕ)) (len : ℕ) → count_by (λ b. b) (bits n chunks len) ≡ ones_from (chunks_bit n chunks) 0 len
unfolding bits trues
count-bits n chunks len = sym (is_count_by trues (λ b. b) refl (λ _ _. refl) (bits n chunks len)) ∙ trues-map (chunks_bit n chunks) 0 len
