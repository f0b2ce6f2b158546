use Rattle.std.proofs.lemmas.Iterator.{items_from_collect}
use Rattle.std.proofs.lemmas.Iterator.Consumers.{YieldsList-from_first}
use Rattle.uses.proofs.changed_chunks.chunks_to_change.Goals as goal

pub returns : goal.returns
returns g c = items_from_collect _ c.collect.ensures.ran (YieldsList-from_first (λ x. x) (λ s. s) _ c.changed_chunks.ensures.value)
