use Rattle.std.proofs.Common.{◌≡◌, ◌*◌, length, ap, arith}
use Rattle.std.specs.Int.{div_ceil}
use Rattle.bitmap_bytes.proofs.Chunks.Places.{IsChunkCount-ceil}
use Rattle.bitmap_bytes.proofs.Chunks.Packed.{chunks-more, all-bits}
use Rattle.bitmap_core.proofs.bitmap.deque.bools.from_bools.Goals as goal

pub loop-i-preserved : goal.loop-i-preserved
loop-i-preserved g c =
    let positive = c.requires.width.positive in
    let loop = c.loop-i.invariant in
    record {
      len = omega arith;
      space = omega arith;
      bits =
          chunks-more _ _ _ _ _ _ _ _ positive (omega (arith, c.loop-i.chunks.ok.0))
          (ap (λ w. w * c.loop-i.i) c.chunk_width-width.ensures)
          (omega (arith, c.min-size.ensures, c.chunk_width-width.ensures)) c.from_bools.ensures loop.bits c.push_back_reserved.ensures.items;
    }

pub returns-clause-bits : goal.returns-clause-bits
returns-clause-bits g c =
    let i : length c.loop-i.chunks.items ≡ c.loop-i.i = omega (arith, c.loop-i.chunks.ok.0) in
    let k : length c.loop-i.chunks.items ≡ div_ceil (length c.args.bools.now) (8 * g.row.N) =
    omega (arith, c.loop-i.chunks.ok.0, c.chunk_count-count.ensures) in
    all-bits _ _ _ c.requires.width.positive (rw k (IsChunkCount-ceil _ _ c.requires.width.positive).0) (rw i c.loop-i.invariant.bits)
