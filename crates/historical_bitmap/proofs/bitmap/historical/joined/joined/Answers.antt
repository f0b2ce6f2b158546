use Rattle.std.proofs.Common.{◌*◌, ◌<◌}
use Rattle.historical_bitmap.proofs.EditedChunks.JoinedBits.{joined_begun}
use Rattle.historical_bitmap.proofs.bitmap.historical.joined.joined.Goals as goal

pub returns : goal.returns
returns g c =
    let starts : 8 * g.row.N * c.args.index < c.args.len = rw c.chunk_width.ensures at c.if-len-start.false in
    joined_begun g.row.N c.args.bits.now c.args.len c.args.index c.args.old.now c.join.new.chunk c.chunk_at_bit-2.result c.requires.width.positive c.known.ensures.len c.requires.from starts c.join.ensures.kept c.join.ensures.joined c.chunk_at_bit-2.ensures.bits
