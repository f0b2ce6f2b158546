use Rattle.std.proofs.Common.{◌*◌, arith}
use Rattle.std.proofs.Math.Nat.{mul-add}
use Rattle.bitmap_bytes.proofs.Chunks.Packed.{bools-chunk, bools-none}
use Rattle.bitmap_core.proofs.bitmap.deque.bools.append_bools.Goals as goal

pub loop-i-init : goal.loop-i-init
loop-i-init g c = record {
  left = omega arith;
  items = bools-none _ _ _ _;
  len = omega arith;
  capacity = omega arith;
}

pub loop-i-preserved : goal.loop-i-preserved
loop-i-preserved g c =
    let positive = c.requires.width.positive in
    let loop = c.loop-i.invariant in
    record {
      left = omega (arith, mul-add (8 * g.row.N) c.loop-i.i 1, loop.left, c.min-count.ensures, c.chunk_width-width.ensures);
      items =
          bools-chunk _ _ _ _ _ _ _ _ _ _ positive c.requires.count (omega (arith, c.args.chunks.now.ok.0)) c.index.ensures loop.left
          (omega (arith, c.min-count.ensures, c.chunk_width-width.ensures)) loop.items c.append_bools.ensures.items;
      len = omega (arith, loop.left, loop.len, c.append_bools.ensures.len, c.min-count.ensures);
      capacity = omega arith;
    }
