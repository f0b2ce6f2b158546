use Rattle.std.proofs.Common.{◌*◌, ◌%◌, refl, ◌∙◌}
use Rattle.historical_bitmap.proofs.EditedChunks.JoinedBits.{both_show}
use Rattle.historical_bitmap.proofs.bitmap.historical.joined.chunk_at_bit.Goals as goal

pub returns-clause-bits : goal.returns-clause-bits
returns-clause-bits g c = λ k.
    rw (c.as_flattened.ensures.value, c.chunk_width.ensures) at (c.chunk_from-bytes.ensures k) ∙ both_show g.row.N c.args.bits.now c.args.bit c.chunk_index-index.result (c.args.bit % (8 * g.row.N)) c.chunk_or_zeros-low.result c.chunk_or_zeros.result c.requires.width.positive c.chunk_index-index.ensures refl c.chunk_or_zeros-low.ensures.known.len c.chunk_or_zeros.ensures.known.len c.chunk_or_zeros-low.ensures.bits c.chunk_or_zeros.ensures.bits k
