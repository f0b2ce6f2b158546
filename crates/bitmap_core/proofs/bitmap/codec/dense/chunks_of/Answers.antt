use Rattle.std.proofs.Common.{◌∙◌}
use Rattle.bitmap_bytes.proofs.Chunks.OfBytes.{chunks-exact}
use Rattle.bitmap_core.proofs.bitmap.codec.dense.chunks_of.Goals as goal

pub returns : goal.returns
returns g c = c.as_chunks.ensures.front ∙ chunks-exact g.row.N c.args.count c.args.bytes.now c.requires.positive c.requires.size
