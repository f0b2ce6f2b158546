-- The option that asks for explanations of errors.
use Rattle.std.specs.Prelude.{ℕ, List, [], ◌∷◌, Bool, false, codes, bytes_eq}

-- whether the first of the arguments, each given by its bytes, is the option `--explain`
abbrev pub asks_explanations : List (List ℕ) → Bool
asks_explanations (first ∷ others) = bytes_eq first (codes "--explain")
asks_explanations [] = false
