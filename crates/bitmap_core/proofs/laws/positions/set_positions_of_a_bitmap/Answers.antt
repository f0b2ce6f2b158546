use Rattle.std.proofs.lemmas.Iterator.{items_from_collect}
use Rattle.std.proofs.lemmas.Result.{IfOk-weaker}
use Rattle.bitmap_core.proofs.Lists.Members.{positions-ascend, positions-exact, positions-count}
use Rattle.bitmap_core.proofs.Words.Runs.{positions_from}
use Rattle.bitmap_core.proofs.laws.positions.set_positions_of_a_bitmap.Goals as goal

pub returns-clause-ascend : goal.returns-clause-ascend
returns-clause-ascend g c =
    let collected = items_from_collect _ c.collect.ensures.ran (positions_from _ c.ones_iter.ensures.positions) in
    IfOk-weaker c.collect.result _ _ (λ v e. positions-ascend c.args.bitmap.now v.items e) collected

pub returns-clause-exact : goal.returns-clause-exact
returns-clause-exact g c =
    let collected = items_from_collect _ c.collect.ensures.ran (positions_from _ c.ones_iter.ensures.positions) in
    IfOk-weaker c.collect.result _ _ (λ v e. positions-exact c.args.bitmap.now v.items e) collected

pub returns-clause-count : goal.returns-clause-count
returns-clause-count g c =
    let collected = items_from_collect _ c.collect.ensures.ran (positions_from _ c.ones_iter.ensures.positions) in
    IfOk-weaker c.collect.result _ _ (λ v e. positions-count c.args.bitmap.now v.items e) collected
