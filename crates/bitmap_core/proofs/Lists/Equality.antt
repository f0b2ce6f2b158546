-- Deciding whether two bitmaps have the same bits.
use Rattle.std.proofs.Common.{◌≡◌, ◌≢◌, ℕ, Bool, true, false, List, length, get_or, eqb, refl, sym, ap, ◌∙◌, inl, inr, arith}
use Rattle.std.proofs.lemmas.Bool.{cases_lt}
use Rattle.std.proofs.lemmas.Bool.Decides.{same_from_decides, Decides-eqb}
use Rattle.std.specs.Bool.{Decides}
use Rattle.std.specs.Cmp.{booleans_Decides}
use Rattle.std.specs.Cmp.Lexicographic.{pointwise, pointwise_decides}
use Rattle.std.proofs.Math.Bool.{beq}
use Rattle.bitmap_bytes.specs.Bits.{chunks_bit, bits, IsZeroFrom}
use Rattle.bitmap_bytes.proofs.Lists.Bits.{get_or-bits, bits-same, len_is}

decides_from : {P : Type 0} (r : Bool) → (r ≡ true → P) → (r ≡ false → P → ⊥) → Decides r P
decides_from true f g = (f, λ _. refl)
decides_from false f g = (f, λ p. absurd (g refl p))

pub same_values : (n : ℕ) (xs ys : List (List ℕ)) (len len' : ℕ) (v w : List Bool) (r : Bool) → bits n xs len ≡ v
    → bits n ys len' ≡ w → len ≡ len' → IsZeroFrom n xs len → IsZeroFrom n ys len'
    → Decides r ((i : ℕ) → chunks_bit n xs i ≡ chunks_bit n ys i)
    → r ≡ pointwise beq v w
same_values n xs ys len len' v w r e f l z y d =
    let g : bits n ys len ≡ w = ap (λ k. bits n ys k) l ∙ f in
    same_from_decides {P = v ≡ w} r (pointwise beq v w) (
      λ q. sym e ∙ bits-same n ys xs len (λ i _. d.0 q i) ∙ g,
      λ h. d.1 (λ i. elim (cases_lt i len) [
        | inl s ↦ sym (get_or-bits n xs len i false s) ∙ ap (λ x. get_or x i false) (e ∙ h ∙ sym g) ∙ get_or-bits n ys len i false s
        | inr s ↦ z i s ∙ sym (y i (omega arith))
      ]),
    ) (pointwise_decides booleans_Decides v w)

pub other_lengths : (n : ℕ) (xs ys : List (List ℕ)) (len len' : ℕ) (v w : List Bool) → bits n xs len ≡ v → bits n ys len' ≡ w
    → len ≢ len'
    → eqb len len' ≡ pointwise beq v w
other_lengths n xs ys len len' v w e f d =
    let apart : v ≡ w → ⊥ = λ h. d (sym (len_is n xs len v e) ∙ ap length h ∙ len_is n ys len' w f) in
    let lengths = decides_from {P = v ≡ w} (eqb len len') (λ q. absurd (d ((Decides-eqb len len').0 q))) (λ q h. apart h) in
    same_from_decides {P = v ≡ w} (eqb len len') (pointwise beq v w) lengths (pointwise_decides booleans_Decides v w)
