-- Tests on numbers and lists, and powers of two.
use Rattle.std.proofs.Common.{◌≡◌, ◌≢◌, ℕ, ◌<◌, ◌≤◌, List, [], ◌∷◌, nat_le, nat_lt, true, false, Option, Some, None, ◌⊎◌, inl, inr, refl, arith}
use Rattle.std.specs.Option.{option_map}
use Rattle.std.proofs.lemmas.Bool.Decides.{nat_tests, eqb_tells}

pub le_true : (a b : ℕ) → a ≤ b → nat_le a b ≡ true
le_true a b h = grind (arith, nat_tests)

pub le_false : (a b : ℕ) → b < a → nat_le a b ≡ false
le_false a b h = grind (arith, nat_tests)

pub lt_true : (a b : ℕ) → a < b → nat_lt a b ≡ true
lt_true a b h = grind (arith, nat_tests)

pub lt_false : (a b : ℕ) → b ≤ a → nat_lt a b ≡ false
lt_false a b h = grind (arith, nat_tests)

-- which of two numbers is larger
pub le_or_lt : (a b : ℕ) → (a ≤ b) ⊎ (b < a)
le_or_lt a b = grind (arith, nat_tests)

-- whether two lists are equal
pub same_or_not : (a b : List ℕ) → (a ≡ b) ⊎ (a ≢ b)
same_or_not [] [] = inl refl
same_or_not [] (y ∷ ys) = inr (λ e. cc)
same_or_not (x ∷ xs) [] = inr (λ e. cc)
same_or_not (x ∷ xs) (y ∷ ys) =
    elim (eqb_tells x y) [
      | inl w ↦ elim (same_or_not xs ys) [ inl e ↦ inl (cc (w.1, e)) | inr n ↦ inr (λ e. n (cc e)) ]
      | inr w ↦ inr (λ e. w.1 (cc e))
    ]

-- a value that a mapped option has comes from a value of the option
pub record Mapped (f : List ℕ → List ℕ) (o : Option (List ℕ)) (y : List ℕ) : Type 0 where
  pub before : List ℕ
  pub was : o ≡ Some before
  pub gives : f before ≡ y

pub mapped : (f : List ℕ → List ℕ) (o : Option (List ℕ)) (y : List ℕ) → option_map f o ≡ Some y → Mapped f o y
mapped f None y e = cc
mapped f (Some x) y e = record { before = x; was = refl; gives = cc }
