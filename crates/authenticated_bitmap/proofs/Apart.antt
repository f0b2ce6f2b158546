-- Two complete subtrees are stored at two places, and a replaced leaf changes only the subtrees above it.
use Rattle.std.proofs.Common.{◌≡◌, ℕ, zero, suc, ◌+◌, ◌-◌, ◌*◌, ◌^◌, ◌<◌, ◌≤◌, List, [], ◌∷◌, ◌++◌, length, take, drop, get_or, set, ◌⊎◌, inl, inr, refl, sym, ap, ◌∙◌, arith}
use Rattle.std.proofs.Math.Pow.{pow-lt}
use Rattle.std.proofs.Math.Nat.{mul-le-mul_left}
use Rattle.std.proofs.lemmas.List.{length-append, length-take-le, length-drop, get_or-take, get_or-drop, get_or_append_left, drop-set-lt, drop-set-add, take-set-le}
use Rattle.std.proofs.lemmas.Nat.{pow_pos}
use Rattle.authenticated_bitmap.specs.Tree.{subtree_hash}
use Rattle.authenticated_bitmap.specs.Stored.{stored, position, leaves_under, KeepsApart}
use Rattle.authenticated_bitmap.proofs.Tests.{le_or_lt}
use Rattle.authenticated_bitmap.proofs.Complete.{twice}
use Rattle.authenticated_bitmap.proofs.Steps.{hash_split}
use Rattle.authenticated_bitmap.proofs.FromStored.{whole}

-- with the hash that returns its argument, the digest of a subtree shows its size and its first leaf
same : List ℕ → List ℕ
same xs = xs

-- digests of one number each, from a number on
numbered : ℕ → ℕ → List (List ℕ)
numbered from zero = []
numbered from (suc n) = (from ∷ []) ∷ numbered (suc from) n

length-numbered : (from n : ℕ) → length (numbered from n) ≡ n
unfolding numbered
length-numbered from zero = refl
length-numbered from (suc n) = ap suc (length-numbered (suc from) n)

get-numbered : (from n i : ℕ) → i < n → get_or (numbered from n) i [] ≡ (from + i) ∷ []
unfolding numbered
get-numbered from zero i h = absurd (omega arith)
get-numbered from (suc n) zero h = (let e : from ≡ from + 0 = omega arith in ap (λ x. x ∷ []) e)
get-numbered from (suc n) (suc i) h = get-numbered (suc from) n i (omega arith) ∙ (let e : suc from + i ≡ from + suc i = omega arith in ap (λ x. x ∷ []) e)

-- each digest is one number
Ones : List (List ℕ) → Type 0
Ones xs = (i : ℕ) → i < length xs → length (get_or xs i []) ≡ 1

at_zero_size : (xs : List (List ℕ)) → length xs ≡ 1 → Ones xs → length (subtree_hash same zero xs) + 1 ≡ 2
unfolding subtree_hash same Ones
at_zero_size [] l o = absurd (omega arith)
at_zero_size (x ∷ xs) l o = omega (arith, o 0 (omega arith))

at_zero_first : (xs : List (List ℕ)) → length xs ≡ 1 → get_or (subtree_hash same zero xs) 0 0 ≡ get_or (get_or xs 0 []) 0 0
unfolding subtree_hash same
at_zero_first [] l = absurd (omega arith)
at_zero_first (x ∷ xs) l = refl

split : (k : ℕ) (xs : List (List ℕ)) → 2 ^ k < length xs → subtree_hash same (suc k) xs ≡ 1 ∷ subtree_hash same k (take (2 ^ k) xs) ++ subtree_hash same k (drop (2 ^ k) xs)
unfolding same
split k xs h = hash_split (λ x. x) k xs h

size : (k : ℕ) (xs : List (List ℕ)) → length xs ≡ 2 ^ k → Ones xs → length (subtree_hash same k xs) + 1 ≡ 2 * 2 ^ k
unfolding Ones
size zero xs l o = at_zero_size xs l o
size (suc k) xs l o =
    let lf = length-take-le (2 ^ k) xs (omega (arith, l, twice k)) in
    let lr : length (drop (2 ^ k) xs) ≡ 2 ^ k = omega (arith, length-drop (2 ^ k) xs, l, twice k) in
    let a = size k (take (2 ^ k) xs) lf (λ i h. ap length (get_or-take (2 ^ k) xs i [] (omega (arith, lf))) ∙ o i (omega (arith, lf, l, twice k))) in
    let b = size k (drop (2 ^ k) xs) lr (λ i h. ap length (get_or-drop (2 ^ k) xs i []) ∙ o (2 ^ k + i) (omega (arith, lr, l, twice k))) in
    omega (arith, a, b, ap length (split k xs (omega (arith, l, twice k, pow_pos k))), length-append (subtree_hash same k (take (2 ^ k) xs)) (subtree_hash same k (drop (2 ^ k) xs)), twice k)

above : (k : ℕ) → k + 1 ≤ 2 ^ k
above zero = omega arith
above (suc k) = omega (arith, above k, twice k)

first : (k : ℕ) (xs : List (List ℕ)) → length xs ≡ 2 ^ k → Ones xs → get_or (subtree_hash same k xs) k 0 ≡ get_or (get_or xs 0 []) 0 0
unfolding Ones
first zero xs l o = at_zero_first xs l
first (suc k) xs l o =
    let lf = length-take-le (2 ^ k) xs (omega (arith, l, twice k)) in
    let of = (λ (i : ℕ) (h : i < length (take (2 ^ k) xs)). ap length (get_or-take (2 ^ k) xs i [] (omega (arith, lf))) ∙ o i (omega (arith, lf, l, twice k))) in
    ap (λ ys. get_or ys (suc k) 0) (split k xs (omega (arith, l, twice k, pow_pos k)))
    ∙ get_or_append_left (subtree_hash same k (take (2 ^ k) xs)) (subtree_hash same k (drop (2 ^ k) xs)) 0 k (omega (arith, size k (take (2 ^ k) xs) lf of, above k))
    ∙ first k (take (2 ^ k) xs) lf of ∙ ap (λ x. get_or x 0 0) (get_or-take (2 ^ k) xs 0 [] (pow_pos k))

pub leaves_beside : (digests : List (List ℕ)) (i level index : ℕ) (digest : List ℕ) → (i < index * 2 ^ level) ⊎ ((index + 1) * 2 ^ level ≤ i) → leaves_under level index (set digests i digest) ≡ leaves_under level index digests
leaves_beside digests i level index digest (inl b) = ap (take (2 ^ level)) (drop-set-lt (index * 2 ^ level) digests i digest b)
leaves_beside digests i level index digest (inr b) =
    let s = index * 2 ^ level in
    let e : s + (i - s) ≡ i = omega arith in
    let far : 2 ^ level ≤ i - s = omega arith in
    ap (λ k. take (2 ^ level) (drop s (set digests k digest))) (sym e) ∙ ap (take (2 ^ level)) (drop-set-add s digests (i - s) digest) ∙ take-set-le (2 ^ level) (drop s digests) (i - s) digest far

module _ (n level index : ℕ) (b : (index + 1) * 2 ^ level ≤ n) where
  block_length : length (leaves_under level index (numbered 0 n)) ≡ 2 ^ level
  block_length = length-take-le (2 ^ level) (drop (index * 2 ^ level) (numbered 0 n)) (omega (arith, length-drop (index * 2 ^ level) (numbered 0 n), length-numbered 0 n))

  block_number : (t : ℕ) → t < 2 ^ level → get_or (leaves_under level index (numbered 0 n)) t [] ≡ (0 + (index * 2 ^ level + t)) ∷ []
  block_number t h =
      get_or-take (2 ^ level) (drop (index * 2 ^ level) (numbered 0 n)) t [] h ∙ get_or-drop (index * 2 ^ level) (numbered 0 n) t []
      ∙ get-numbered 0 n (index * 2 ^ level + t) (omega arith)

  block_ones : Ones (leaves_under level index (numbered 0 n))
  unfolding Ones
  block_ones t h = ap length (block_number t (omega (arith, block_length)))

  block_size : length (subtree_hash same level (leaves_under level index (numbered 0 n))) + 1 ≡ 2 * 2 ^ level
  block_size = size level (leaves_under level index (numbered 0 n)) block_length block_ones

  block_first : get_or (subtree_hash same level (leaves_under level index (numbered 0 n))) level 0 ≡ index * 2 ^ level
  block_first = first level (leaves_under level index (numbered 0 n)) block_length block_ones ∙ ap (λ x. get_or x 0 0) (block_number 0 (pow_pos level)) ∙ omega arith

same_level : (l m : ℕ) → 2 ^ l ≡ 2 ^ m → l ≡ m
same_level l m e =
    elim (le_or_lt l m) [
      | inl le ↦ elim (le_or_lt m l) [ inl ge ↦ omega arith | inr lt ↦ (let p : 2 ^ l < 2 ^ m = pow-lt lt in absurd (omega arith)) ]
      | inr gt ↦ (let p : 2 ^ m < 2 ^ l = pow-lt gt in absurd (omega arith))
    ]

cancel : (i j p : ℕ) → 0 < p → i * p ≡ j * p → i ≡ j
cancel i j p h e =
    elim (le_or_lt i j) [
      | inl le ↦ elim (le_or_lt j i) [ inl ge ↦ omega arith | inr lt ↦ (let q : i + 1 ≤ j = omega arith in absurd (omega (arith, mul-le-mul_left p q))) ]
      | inr gt ↦ (let q : j + 1 ≤ i = omega arith in absurd (omega (arith, mul-le-mul_left p q)))
    ]

pub places_apart : (n l i m j : ℕ) → (i + 1) * 2 ^ l ≤ n → (j + 1) * 2 ^ m ≤ n → position l i ≡ position m j → (l ≡ m) × (i ≡ j)
places_apart n l i m j b c e =
    let digests = numbered 0 n in
    let count = length-numbered 0 n in
    let one : subtree_hash same l (leaves_under l i digests) ≡ subtree_hash same m (leaves_under m j digests) =
    sym (whole same digests l i (omega (arith, count))) ∙ ap (λ p. get_or (stored same digests) p []) e ∙ whole same digests m j (omega (arith, count)) in
    let powers : 2 ^ l ≡ 2 ^ m = omega (arith, block_size n l i b, block_size n m j c, ap length one) in
    let levels : l ≡ m = same_level l m powers in
    let starts : i * 2 ^ l ≡ j * 2 ^ m = sym (block_first n l i b) ∙ ap (λ k. get_or (subtree_hash same l (leaves_under l i digests)) k 0) levels ∙ ap (λ xs. get_or xs m 0) one ∙ block_first n m j c in
    (levels, cancel i j (2 ^ l) (pow_pos l) (starts ∙ ap (λ p. j * p) (sym powers)))

pub keeps_apart : KeepsApart
keeps_apart = record { places = places_apart; leaves = leaves_beside }
