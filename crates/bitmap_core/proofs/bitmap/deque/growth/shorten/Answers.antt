use Rattle.std.proofs.Common.{◌∙◌, arith}
use Rattle.std.proofs.lemmas.List.{length-take-le}
use Rattle.bitmap_bytes.proofs.Chunks.Places.{IsChunkCount-ceil, fewer_chunks, index_below}
use Rattle.bitmap_bytes.proofs.Chunks.Lists.{chunks_bit-take_in}
use Rattle.bitmap_core.proofs.bitmap.deque.growth.shorten.Goals as goal

pub clear_tail-requires : goal.clear_tail-requires
clear_tail-requires g c =
    let k = IsChunkCount-ceil g.row.N c.args.shorter c.requires.width.positive in
    let f = fewer_chunks _ _ _ _ k.1 c.requires.order in (
      omega (arith, c.requires.width.fits),
      (c.requires.width, rw (c.truncate.ensures.items, c.chunk_count.ensures, length-take-le _ c.args.chunks.now.items f) k),
    )

pub returns-clause-count : goal.returns-clause-count
returns-clause-count g c =
    let k = IsChunkCount-ceil g.row.N c.args.shorter c.requires.width.positive in
    let f = fewer_chunks _ _ _ _ k.1 c.requires.order in
    rw (c.clear_tail.ensures.count, c.truncate.ensures.items, c.chunk_count.ensures, length-take-le _ c.args.chunks.now.items f) k

pub returns-clause-below : goal.returns-clause-below
returns-clause-below g c = λ i s.
    let positive = c.requires.width.positive in
    c.clear_tail.ensures.below i s
    ∙ rw (c.truncate.ensures.items, c.chunk_count.ensures) (chunks_bit-take_in _ _ _ i (index_below _ _ _ _ positive s (IsChunkCount-ceil _ _ positive)))
