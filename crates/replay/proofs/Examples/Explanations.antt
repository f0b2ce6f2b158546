-- The option that asks for explanations of errors.
use Rattle.std.proofs.Common.{◌≡◌, ◌∷◌, [], refl}
use Rattle.std.specs.Prelude.{codes, true, false}
use Rattle.replay.specs.Explanations.{asks_explanations}

-- the option is the first argument
first_argument : asks_explanations (codes "--explain" ∷ codes "4" ∷ codes "a.script" ∷ []) ≡ true
first_argument = refl

option_alone : asks_explanations (codes "--explain" ∷ []) ≡ true
option_alone = refl

-- a longer word, a later argument and no argument do not ask for explanations
longer_word : asks_explanations (codes "--explains" ∷ codes "4" ∷ []) ≡ false
longer_word = refl

last_argument : asks_explanations (codes "4" ∷ codes "a.script" ∷ codes "--explain" ∷ []) ≡ false
last_argument = refl

no_argument : asks_explanations [] ≡ false
no_argument = refl
