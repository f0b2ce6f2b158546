-- The chunk widths that the program accepts.
use Rattle.std.specs.Prelude.{◌≡◌, ℕ, ◌⊎◌, List, [], ◌∷◌, Option, None, codes, bytes_eq}
use Rattle.std.specs.Map.{lookup}

-- a width is one of the five, in bytes per chunk
abbrev pub IsOfferedWidth : ℕ → Type 0
IsOfferedWidth width = (width ≡ 1) ⊎ ((width ≡ 3) ⊎ ((width ≡ 4) ⊎ ((width ≡ 8) ⊎ (width ≡ 32))))

-- the five widths, each with its text
abbrev pub offered_widths : List (List ℕ × ℕ)
offered_widths = (codes "1", 1) ∷ (codes "3", 3) ∷ (codes "4", 4) ∷ (codes "8", 8)
    ∷ (codes "32", 32) ∷ []

-- the width that the arguments name, each given by its bytes: there are two, and the first is the text of one of the five
abbrev pub offered_width : List (List ℕ) → Option ℕ
offered_width (width ∷ script ∷ []) = lookup (bytes_eq width) offered_widths
offered_width _ = None
