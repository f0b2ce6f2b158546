-- Equality of slices of bytes, by blocks and by quarters.
use Rattle.std.proofs.Common.{◌≡◌, ℕ, ◌+◌, ◌-◌, ◌*◌, ◌%◌, ◌<◌, ◌≤◌, Bool, List, [], ◌++◌, length, get_or, bit_or, sym, ap, ◌∙◌, inl, inr, arith}
use Rattle.std.specs.Bool.{Decides}
use Rattle.std.specs.Int.{bit_at}
use Rattle.std.specs.Int.Bits.{bit_xor, xor_self, or_zero_r}
use Rattle.std.specs.List.{flat_map}
use Rattle.std.specs.Simd.{first_chunks}
use Rattle.std.proofs.lemmas.Bool.{cases_lt}
use Rattle.std.proofs.lemmas.Bool.Decides.{Decides-like}
use Rattle.std.proofs.lemmas.List.{ext_get_or}
use Rattle.std.proofs.lemmas.Nat.{le_or_l, le_or_r}
use Rattle.std.proofs.lemmas.Nat.Bits.{bit_at_xor, bit_at-zero, bit_at-lt, same_from_bits}
use Rattle.bitmap_bytes.proofs.Chunks.OfBytes.{first_chunks-all}
use Rattle.bitmap_core.proofs.Chunks.Equal.{append_split}
use borrow.Author.Count.{below_more}

-- ---- one block

-- the fold over the first i bytes of two blocks: if it is zero, these bytes are equal, and it is zero if the blocks are equal
pub record IsFold (xs ys : List ℕ) (i differing : ℕ) : Type 0 where
  pub equal : differing ≡ 0 → (k : ℕ) → k < i → get_or xs k 0 ≡ get_or ys k 0
  pub zero : xs ≡ ys → differing ≡ 0

-- numbers that differ in no bit are equal
xor_zero : (a b : ℕ) → bit_xor a b ≡ 0 → a ≡ b
xor_zero a b e =
    same_from_bits a b (λ i.
    let z : (bit_at a i + bit_at b i) % 2 ≡ 0 = sym (bit_at_xor a b i) ∙ ap (λ n. bit_at n i) e ∙ bit_at-zero i in
    omega (arith, bit_at-lt a i, bit_at-lt b i))

-- one more byte
pub fold_next : (xs ys : List ℕ) (i differing : ℕ) → IsFold xs ys i differing → IsFold xs ys (i + 1) (bit_or differing (bit_xor (get_or xs i 0) (get_or ys i 0)))
fold_next xs ys i differing f =
    let rest = bit_xor (get_or xs i 0) (get_or ys i 0) in
    record {
      equal = λ e. below_more (λ k. get_or xs k 0 ≡ get_or ys k 0) i (f.equal (omega (arith, le_or_l differing rest))) (xor_zero _ _ (omega (arith, le_or_r differing rest)));
      zero = λ e. ap (λ d. bit_or d rest) (f.zero e) ∙ ap (λ zs. bit_or 0 (bit_xor (get_or zs i 0) (get_or ys i 0))) e ∙ ap (bit_or 0) (xor_self (get_or ys i 0)) ∙ or_zero_r 0;
    }

-- ---- four quarters of blocks

-- in each quarter of `count` blocks, the first i blocks are equal
pub record AreEqualBelow (xs ys : List (List ℕ)) (count i : ℕ) : Type 0 where
  pub first : (k : ℕ) → k < i → get_or xs k [] ≡ get_or ys k []
  pub second : (k : ℕ) → k < i → get_or xs (count + k) [] ≡ get_or ys (count + k) []
  pub third : (k : ℕ) → k < i → get_or xs (2 * count + k) [] ≡ get_or ys (2 * count + k) []
  pub fourth : (k : ℕ) → k < i → get_or xs (3 * count + k) [] ≡ get_or ys (3 * count + k) []

-- the block at index k of the list is block k - from of the quarter that begins at `from`
in_quarter : (xs ys : List (List ℕ)) (count from k : ℕ) → ((j : ℕ) → j < count → get_or xs (from + j) [] ≡ get_or ys (from + j) []) → from ≤ k → k < from + count
    → get_or xs k [] ≡ get_or ys k []
in_quarter xs ys count from k h l s =
    let e : k ≡ from + (k - from) = omega arith in
    ap (λ n. get_or xs n []) e ∙ h (k - from) (omega arith) ∙ ap (λ n. get_or ys n []) (sym e)

-- lists of which all quarters are equal
pub quarters_joined : (xs ys : List (List ℕ)) (count : ℕ) → length xs ≡ 4 * count → length xs ≡ length ys → AreEqualBelow xs ys count count → xs ≡ ys
quarters_joined xs ys count l m q =
    ext_get_or [] xs ys m (λ k h. elim (cases_lt k count) [
      | inl s ↦ q.first k s
      | inr s ↦ elim (cases_lt k (2 * count)) [
        | inl t ↦ in_quarter xs ys count count k q.second s (omega arith)
        | inr t ↦ elim (cases_lt k (3 * count)) [
          | inl u ↦ in_quarter xs ys count (2 * count) k q.third t (omega arith)
          | inr u ↦ in_quarter xs ys count (3 * count) k q.fourth u (omega arith)
        ]
      ]
    ])

-- ---- bytes as blocks, and what is left

-- comparing the blocks of bytes is comparing the bytes
pub blocks_decided : (r : Bool) (xs ys : List ℕ) (count : ℕ) (bs cs : List (List ℕ)) → length xs ≡ 64 * count → length ys ≡ 64 * count
    → bs ≡ first_chunks 64 count xs → cs ≡ first_chunks 64 count ys → Decides r (bs ≡ cs)
    → Decides r (xs ≡ ys)
blocks_decided r xs ys count bs cs l m b c d =
    Decides-like r (λ e. sym (first_chunks-all 64 count xs l) ∙ ap (flat_map (λ x. x)) (sym b ∙ e ∙ c) ∙ first_chunks-all 64 count ys m)
    (λ e. b ∙ ap (first_chunks 64 count) e ∙ sym c) d

-- lists whose first parts are equal are equal if the rests are
pub rest_decided : {A : Type 0} (r : Bool) (xs ys low low_2 rest rest_2 : List A) → xs ≡ low ++ rest → ys ≡ low_2 ++ rest_2 → low ≡ low_2 → Decides r (rest ≡ rest_2)
    → Decides r (xs ≡ ys)
rest_decided r xs ys low low_2 rest rest_2 a b e d =
    Decides-like r (λ f. a ∙ ap (λ x. x ++ rest) e ∙ ap (λ x. low_2 ++ x) f ∙ sym b)
    (λ f. (append_split low rest low_2 rest_2 (ap length e) (sym a ∙ f ∙ b)).1) d
