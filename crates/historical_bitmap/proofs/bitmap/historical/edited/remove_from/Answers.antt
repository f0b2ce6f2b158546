use Rattle.historical_bitmap.proofs.EditedChunks.CutChunks.{all_dropped, one_less, still_below}
use Rattle.historical_bitmap.proofs.bitmap.historical.edited.remove_from.Goals as goal

pub loop-index-preserved : goal.loop-index-preserved
loop-index-preserved g c = still_below c.args.chunks.now.entries c.loop-index.chunks.entries c.remove.new.self.entries c.args.from c.in-Some.index c.in-Some.ensures.0 c.remove.ensures.removed c.loop-index.invariant

pub loop-index-smaller : goal.loop-index-smaller
loop-index-smaller g c = one_less c.loop-index.chunks.entries c.loop-index.chunks.indices c.remove.new.self.indices c.in-Some.index c.remove.result c.remove.ensures.value c.in-Some.ensures.1 c.remove.ensures.indices

pub returns : goal.returns
returns g c = all_dropped c.args.chunks.now.entries c.loop-index.chunks.entries c.args.from c.loop-index.invariant c.in_default.ensures
