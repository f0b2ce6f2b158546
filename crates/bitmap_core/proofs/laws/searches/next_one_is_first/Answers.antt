use Rattle.std.proofs.Common.{◌∙◌, sym, ap}
use Rattle.bitmap_core.specs.Searches.{first}
use Rattle.bitmap_core.proofs.Found.{first_item}
use Rattle.bitmap_core.proofs.laws.searches.next_one_is_first.Goals as goal

pub returns-clause-same : goal.returns-clause-same
returns-clause-same g c =
    c.next_one-next.ensures ∙ sym (first_item _ _ c.next-first.result c.next-first.ensures.steps.yields ∙ ap first c.ones_iter_from.ensures.positions)
