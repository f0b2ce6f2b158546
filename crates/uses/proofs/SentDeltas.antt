-- The delta between two kept versions is there.
use Rattle.std.proofs.Common.{◌≡◌, ℕ, ◌<◌, List, Option, Some, None, Result, Ok, Err, ◌∙◌}
use Rattle.std.specs.Prelude.{IfOk, IsSomeAnd}
use Rattle.std.specs.Option.{option_map}
use Rattle.std.proofs.lemmas.Option.{none-some, same_Some}
use Rattle.bitmap_core.specs.PrunedBits.{PrunedBits}
use Rattle.historical_bitmap.specs.History.{kept_under}
use Rattle.commit_log.specs.Delta.{IsStep, delta_between, delta_of, encode_delta}
use Rattle.commit_log.proofs.DeltaSteps.{delta_there}
use Rattle.uses.specs.Replicas.{IsDelta}

-- what is returned of two kept versions is the delta from the first to the second
pub returned_delta : {T E : Type 0} (items : T → List ℕ) (n : ℕ) (history : List (ℕ × PrunedBits)) (from to : ℕ) (older newer : PrunedBits) (r : Result (Option T) E)
    → from < to → kept_under history from ≡ Some older → kept_under history to ≡ Some newer → IsStep n from older to newer
    → IfOk r (λ found. option_map items found ≡ delta_of n history from to) → IfOk r (λ found. IsSomeAnd found (λ bytes. IsDelta n from older to newer (items bytes)))
returned_delta items n history from to older newer (Ok (Some bytes)) order e f step value = record {
  step = step;
  encoded = same_Some (items bytes) (encode_delta n (delta_between n from older to newer)) (value ∙ delta_there n history from to older newer order e f);
}
returned_delta items n history from to older newer (Ok None) order e f step value =
    absurd (none-some (encode_delta n (delta_between n from older to newer)) (value ∙ delta_there n history from to older newer order e f))
returned_delta items n history from to older newer (Err error) order e f step value = tt
