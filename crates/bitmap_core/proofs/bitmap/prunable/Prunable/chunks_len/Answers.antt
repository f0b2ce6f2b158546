use Rattle.bitmap_core.proofs.Pruned.Positions.{ceil_above_index, index_below_ceil}
use Rattle.bitmap_core.proofs.bitmap.prunable.Prunable.chunks_len.Goals as goal

pub returns-clause-holds : goal.returns-clause-holds
returns-clause-holds g c =
    rw (c.chunk_count.ensures, c.len.ensures.value) (λ i.
    (λ h. index_below_ceil _ _ _ c.len.ensures.width.positive h, λ h. ceil_above_index _ _ _ c.len.ensures.width.positive h))
