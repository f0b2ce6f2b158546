-- The width that two arguments name.
use Rattle.std.proofs.Common.{◌≡◌, ℕ, ◌<◌, ◌≤◌, false, List, [], ◌∷◌, length, map, get_or, Option, None, refl, ap, arith, sym, ◌∙◌}
use Rattle.std.proofs.lemmas.Bool.{cases_Bool}
use Rattle.std.proofs.lemmas.Slice.Eq.{bytes_eq-Decides}
use Rattle.std.specs.Map.{lookup}
use Rattle.std.specs.Prelude.{bytes_eq, codes}
use mathlib.Core.Logic.{inl, inr}
use Rattle.replay.specs.Width.{offered_width, offered_widths}

-- of two arguments the text of the first one decides
pub named : {S : Type 0} (bytes : S → List ℕ) (args : List S) (first : S) (found : Option ℕ)
    → 2 ≤ length args
    → length args < 3
    → first ≡ get_or args 0 first
    → lookup (bytes_eq (bytes first)) offered_widths ≡ found
    → offered_width (map bytes args) ≡ found
named bytes [] first found low high e f = absurd (omega arith)
named bytes (a ∷ []) first found low high e f = absurd (omega arith)
named bytes (a ∷ b ∷ []) first found low high e f = ap (λ s. lookup (bytes_eq (bytes s)) offered_widths) (sym e) ∙ f
named bytes (a ∷ b ∷ c ∷ cs) first found low high e f = absurd (omega arith)

-- the width of a text
pub width_of : (text written : List ℕ) → written ≡ text → lookup (bytes_eq text) offered_widths ≡ lookup (bytes_eq written) offered_widths
width_of text written e = ap (λ bs. lookup (bytes_eq bs) offered_widths) (sym e)

not_text : (bs text : List ℕ) → (bs ≡ text → ⊥) → bytes_eq bs text ≡ false
not_text bs text other = elim (cases_Bool (bytes_eq bs text)) [
  | inl e ↦ absurd (other ((bytes_eq-Decides bs text).0 e))
  | inr e ↦ e
]

-- no other text names a width
pub other_text : (bs : List ℕ) → (bs ≡ codes "1" → ⊥) → (bs ≡ codes "3" → ⊥) → (bs ≡ codes "4" → ⊥) → (bs ≡ codes "8" → ⊥) → (bs ≡ codes "32" → ⊥)
    → lookup (bytes_eq bs) offered_widths ≡ None
other_text bs n1 n3 n4 n8 n32 =
    rw (not_text bs (codes "1") n1, not_text bs (codes "3") n3, not_text bs (codes "4") n4, not_text bs (codes "8") n8, not_text bs (codes "32") n32) refl
