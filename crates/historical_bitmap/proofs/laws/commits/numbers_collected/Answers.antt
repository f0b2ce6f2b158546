use Rattle.std.proofs.lemmas.Iterator.{items_from_collect}
use Rattle.std.proofs.lemmas.Iterator.Consumers.{YieldsList-from_first}
use Rattle.std.proofs.lemmas.Map.Keys.{IsStrictlyIncreasing-from_sorted}
use Rattle.std.proofs.lemmas.Result.{IfOk-weaker}
use Rattle.std.specs.List.Sorted.{IsStrictlyIncreasing}
use Rattle.historical_bitmap.proofs.laws.commits.numbers_collected.Goals as goal

pub returns-clause-ascend : goal.returns-clause-ascend
returns-clause-ascend g c =
    IfOk-weaker c.collect.result _ (λ v. IsStrictlyIncreasing v.items) (λ v is. rw is (IsStrictlyIncreasing-from_sorted _ c.commits.ensures.ascending))
    (items_from_collect _ c.collect.ensures.ran (YieldsList-from_first (λ x. x) (λ s. s) _ c.commits.ensures.items))
