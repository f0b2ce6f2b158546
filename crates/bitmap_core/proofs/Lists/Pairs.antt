-- Whether a function of two bits gives true at no position of two lists of bits.
use Rattle.std.proofs.Common.{◌≡◌, ℕ, zero, suc, ◌<◌, Bool, true, false, not, ◌&&◌, ◌||◌, List, [], ◌∷◌, length, get_or, refl, sym, ap, ◌∙◌, inl, inr, arith}
use Rattle.std.specs.Bool.{Decides}
use Rattle.std.specs.List.{list_all, zip}
use Rattle.std.proofs.lemmas.Bool.{cases_lt, false≢true}
use Rattle.std.proofs.lemmas.Bool.Decides.{same_from_decides}
use Rattle.bitmap_bytes.specs.Bits.{chunks_bit, bits, IsZeroFrom}
use Rattle.bitmap_bytes.proofs.Lists.Bits.{get_or-bits, len_is}
use Rattle.bitmap_bytes.proofs.Counting.Pairs.{GivesNone}

-- f gives true at no position of two lists
abbrev pub ListsGiveNone : (Bool → Bool → Bool) → List Bool → List Bool → Type 0
ListsGiveNone f v w = (k : ℕ) → k < length v → f (get_or v k false) (get_or w k false) ≡ false

-- what is decided of the chunks is decided of the lists of their bits
pub lists_decided : (n : ℕ) (f : Bool → Bool → Bool) (xs ys : List (List ℕ)) (len : ℕ) (v w : List Bool) (r : Bool) → f false false ≡ false
    → bits n xs len ≡ v → bits n ys len ≡ w → IsZeroFrom n xs len → IsZeroFrom n ys len
    → Decides r (GivesNone f (chunks_bit n xs) (chunks_bit n ys))
    → Decides r (ListsGiveNone f v w)
lists_decided n f xs ys len v w r zeros e g y z d =
    let l = len_is n xs len v e in
    let same : (k : ℕ) → k < len → f (chunks_bit n xs k) (chunks_bit n ys k) ≡ f (get_or v k false) (get_or w k false) =
    λ k s. ap (λ b. f b (chunks_bit n ys k)) (sym (get_or-bits n xs len k false s) ∙ ap (λ b. get_or b k false) e)
    ∙ ap (λ b. f (get_or v k false) b) (sym (get_or-bits n ys len k false s) ∙ ap (λ b. get_or b k false) g) in (
      λ q k s. sym (same k (omega arith)) ∙ d.0 q k,
      λ h. d.1 (λ k. elim (cases_lt k len) [
        | inl s ↦ same k s ∙ h k (omega arith)
        | inr s ↦ ap (λ b. f b (chunks_bit n ys k)) (y k s) ∙ ap (λ b. f false b) (z k s) ∙ zeros
      ]),
    )

-- ---- the same as a test of each pair

module _ (f : Bool → Bool → Bool) (test : Bool × Bool → Bool) (is : (x y : Bool) → test (x, y) ≡ not (f x y)) where
  both : (a b : Bool) → a ≡ true → b ≡ true → (a && b) ≡ true
  both true true p q = refl
  both true false p q = q
  both false b p q = p

  first_of : (a b : Bool) → (a && b) ≡ true → a ≡ true
  first_of true b e = refl
  first_of false b e = e

  second_of : (a b : Bool) → (a && b) ≡ true → b ≡ true
  second_of true b e = e
  second_of false b e = absurd (false≢true e)

  not_true : (a : Bool) → not a ≡ true → a ≡ false
  not_true true e = sym e
  not_true false e = refl

  pairs_pass : (v w : List Bool) → length v ≡ length w → ListsGiveNone f v w → list_all test (zip v w) ≡ true
  pairs_pass [] w l h = refl
  pairs_pass (x ∷ v) [] l h = absurd (omega arith)
  pairs_pass (x ∷ v) (y ∷ w) l h =
      both (test (x, y)) (list_all test (zip v w)) (is x y ∙ ap not (h 0 (omega arith)))
      (pairs_pass v w (omega arith) (λ k s. h (suc k) (omega arith)))

  none_from_pairs : (v w : List Bool) → length v ≡ length w → list_all test (zip v w) ≡ true → ListsGiveNone f v w
  none_from_pairs [] w l e k s = absurd (omega arith)
  none_from_pairs (x ∷ v) [] l e k s = absurd (omega arith)
  none_from_pairs (x ∷ v) (y ∷ w) l e zero s = not_true (f x y) (sym (is x y) ∙ first_of (test (x, y)) (list_all test (zip v w)) e)
  none_from_pairs (x ∷ v) (y ∷ w) l e (suc k) s =
      none_from_pairs v w (omega arith) (second_of (test (x, y)) (list_all test (zip v w)) e) k (omega arith)

  -- the result of a test of positions is that of the test of each pair
  pub pairs_result : (v w : List Bool) (r : Bool) → length v ≡ length w → Decides r (ListsGiveNone f v w) → r ≡ list_all test (zip v w)
  pairs_result v w r l d =
      same_from_decides {P = ListsGiveNone f v w} r (list_all test (zip v w)) d (none_from_pairs v w l, pairs_pass v w l)

  -- and back
  pub pairs_decide : (v w : List Bool) (r : Bool) → length v ≡ length w → r ≡ list_all test (zip v w) → Decides r (ListsGiveNone f v w)
  pairs_decide v w r l e = (λ q. none_from_pairs v w l (sym e ∙ q), λ h. e ∙ pairs_pass v w l h)

-- a set bit that is in the other set too
pub subset_test : (x y : Bool) → (not x || y) ≡ not (x && not y)
subset_test true true = refl
subset_test true false = refl
subset_test false y = refl

-- ---- the same as implications

implied : (x y : Bool) → (x && not y) ≡ false → x ≡ true → y ≡ true
implied true true e h = refl
implied true false e h = sym e
implied false y e h = absurd (false≢true h)

not_both : (x y : Bool) → (x ≡ true → y ≡ true) → (x && not y) ≡ false
not_both true y h = ap not (h refl)
not_both false y h = refl

pub subset_decided : (v w : List Bool) (r : Bool) → Decides r (ListsGiveNone (λ x y. x && not y) v w)
    → Decides r ((k : ℕ) → k < length v → get_or v k false ≡ true → get_or w k false ≡ true)
subset_decided v w r d = (
  λ q k s. implied (get_or v k false) (get_or w k false) (d.0 q k s),
  λ h. d.1 (λ k s. not_both (get_or v k false) (get_or w k false) (h k s)),
)

apart : (x y : Bool) → (x && y) ≡ false → x ≡ true → y ≡ true → ⊥
apart true y e h g = false≢true (sym e ∙ g)
apart false y e h g = false≢true h

one_unset : (x y : Bool) → (x ≡ true → y ≡ true → ⊥) → (x && y) ≡ false
one_unset true true h = absurd (h refl refl)
one_unset true false h = refl
one_unset false y h = refl

pub disjoint_decided : (v w : List Bool) (r : Bool) → Decides r (ListsGiveNone (λ x y. x && y) v w)
    → Decides r ((k : ℕ) → k < length v → get_or v k false ≡ true → get_or w k false ≡ true → ⊥)
disjoint_decided v w r d = (
  λ q k s. apart (get_or v k false) (get_or w k false) (d.0 q k s),
  λ h. d.1 (λ k s. one_unset (get_or v k false) (get_or w k false) (h k s)),
)
