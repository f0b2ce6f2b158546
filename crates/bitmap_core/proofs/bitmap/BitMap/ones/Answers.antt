use Rattle.std.proofs.Common.{◌∙◌, true, arith}
use Rattle.std.proofs.lemmas.List.{length-replicate}
use Rattle.bitmap_bytes.proofs.Chunks.Places.{IsChunkCount-ceil, index_below}
use Rattle.bitmap_bytes.proofs.Lists.Bits.{bits-replicate}
use Rattle.bitmap_bytes.proofs.Chunks.Lists.{chunks_bit-ones}
use Rattle.bitmap_core.proofs.bitmap.BitMap.ones.Goals as goal

pub clear_tail-requires : goal.clear_tail-requires
clear_tail-requires g c =
    let k = IsChunkCount-ceil g.row.N c.args.size c.requires.width.positive in (
      omega (arith, c.requires.width.fits),
      (c.requires.width, rw (c.in_ok-append_copies.ensures.ok, c.new-chunks.ensures.items, c.chunk_count.ensures, length-replicate) k),
    )

pub invariant_of-result : goal.invariant_of-result
invariant_of-result g c =
    let k = IsChunkCount-ceil g.row.N c.args.size c.requires.width.positive in
    record {
      width = c.requires.width;
      count =
          rw (c.clear_tail.ensures.count, c.in_ok-append_copies.ensures.ok, c.new-chunks.ensures.items, c.chunk_count.ensures, length-replicate) k;
      zero = c.clear_tail.ensures.zero;
    }

pub returns-clause-ok : goal.returns-clause-ok
returns-clause-ok g c =
    let positive = c.requires.width.positive in
    let k = IsChunkCount-ceil g.row.N c.args.size positive in
    bits-replicate _ _ _ true (λ i s.
    c.clear_tail.ensures.below i s
    ∙ rw (
      c.in_ok-append_copies.ensures.ok,
      c.new-chunks.ensures.items,
      c.chunk_count.ensures,
    ) (chunks_bit-ones _ _ i positive (index_below _ _ _ _ positive s k)))
