use Rattle.std.proofs.Common.{◌≡◌, ◌+◌, ◌*◌, ◌/◌, length, arith}
use Rattle.bitmap_bytes.proofs.Chunks.Places.{open_last}
use Rattle.bitmap_bytes.proofs.Bytes.Shifted.{joined_here, joined_full}
use Rattle.bitmap_core.proofs.bitmap.deque.append.fill_open.Goals as goal

pub returns-then-len-chunk_width-ne0-clause-joined : goal.returns-then-len-chunk_width-ne0-clause-joined
returns-then-len-chunk_width-ne0-clause-joined g c =
    let k : length c.args.chunks.now.items ≡ c.args.len / (8 * g.row.N) + 1 =
    open_last g.row.N _ c.args.len c.requires.width.positive c.requires.count (rw c.chunk_width.ensures at c.if-len-chunk_width-ne0.true) in
    λ i h s. rw c.chunk_index.ensures (joined_here _ _ _ _ _ c.requires.width.positive (omega arith) c.join.ensures.joined i h (omega arith))

pub returns-else-len-chunk_width-ne0-clause-joined : goal.returns-else-len-chunk_width-ne0-clause-joined
returns-else-len-chunk_width-ne0-clause-joined g c =
    joined_full _ _ _ _ c.requires.width.positive c.requires.count (rw c.chunk_width.ensures at c.if-len-chunk_width-ne0.false)
