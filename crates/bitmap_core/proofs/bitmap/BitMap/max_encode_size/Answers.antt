use Rattle.bitmap_core.proofs.Codec.Parts.{most_bytes, all_bytes}
use Rattle.bitmap_core.proofs.bitmap.BitMap.max_encode_size.Goals as goal

pub returns-clause-reached : goal.returns-clause-reached
returns-clause-reached g c = λ v l. rw c.chunk_count.ensures (all_bytes g.row.N c.args.bits v l)

pub returns-clause-most : goal.returns-clause-most
returns-clause-most g c = λ v l. rw c.chunk_count.ensures (most_bytes g.row.N c.args.bits v c.requires.width.positive l)
