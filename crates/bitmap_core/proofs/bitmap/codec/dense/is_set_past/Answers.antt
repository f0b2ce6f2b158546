use Rattle.std.proofs.Common.{◌∙◌}
use Rattle.bitmap_bytes.proofs.Chunks.OfBytes.{past_chunk, past_full}
use Rattle.bitmap_core.proofs.bitmap.codec.dense.is_set_past.Goals as goal

pub returns-then-from-eq0 : goal.returns-then-from-eq0
returns-then-from-eq0 g c =
    past_full g.row.N c.args.len c.args.chunks.now c.requires.width.positive c.requires.count (rw c.chunk_width.ensures at c.if-from-eq0.true)

pub returns : goal.returns
returns g c =
    let positive = c.requires.width.positive in
    let width = c.chunk_width.ensures in
    let index = c.chunk_index.ensures in
    rw width at c.is_set_from.ensures
    ∙ past_chunk _ _ _ _ positive c.requires.count (rw width at c.if-from-eq0.false) (rw index at c.index-chunks-chunk_index.is)
