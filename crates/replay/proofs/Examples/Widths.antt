-- The chunk widths that the program accepts.
use Rattle.std.proofs.Common.{◌≡◌, ◌∷◌, [], refl, inl, inr, arith}
use Rattle.std.specs.Prelude.{codes, None, Some}
use Rattle.replay.specs.Width.{IsOfferedWidth, offered_width}

-- 1, 3, 4, 8 and 32 are accepted
one : IsOfferedWidth 1
one = inl refl

three : IsOfferedWidth 3
three = inr (inl refl)

four : IsOfferedWidth 4
four = inr (inr (inl refl))

eight : IsOfferedWidth 8
eight = inr (inr (inr (inl refl)))

thirty_two : IsOfferedWidth 32
thirty_two = inr (inr (inr (inr refl)))

-- 2 is not accepted
not_two : IsOfferedWidth 2 → ⊥
not_two (inl e) = omega (arith, e)
not_two (inr (inl e)) = omega (arith, e)
not_two (inr (inr (inl e))) = omega (arith, e)
not_two (inr (inr (inr (inl e)))) = omega (arith, e)
not_two (inr (inr (inr (inr e)))) = omega (arith, e)

-- two arguments of which the first is the text 4 name width 4
four_named : offered_width (codes "4" ∷ codes "a.script" ∷ []) ≡ Some 4
four_named = refl

thirty_two_named : offered_width (codes "32" ∷ codes "a.script" ∷ []) ≡ Some 32
thirty_two_named = refl

-- 5 is not offered, and 04 is not the text of 4
five_named : offered_width (codes "5" ∷ codes "a.script" ∷ []) ≡ None
five_named = refl

four_with_zero_named : offered_width (codes "04" ∷ codes "a.script" ∷ []) ≡ None
four_with_zero_named = refl

-- one argument, and three, name no width
one_argument : offered_width (codes "4" ∷ []) ≡ None
one_argument = refl

three_arguments : offered_width (codes "4" ∷ codes "a.script" ∷ codes "b.script" ∷ []) ≡ None
three_arguments = refl
