use Rattle.std.proofs.Common.{arith}
use Rattle.bitmap_core.proofs.Counting.JoinedChunks.{count-pieces}
use Rattle.bitmap_core.proofs.bitmap.deque.counts.count_ones.Goals as goal

pub count_ones-requires : goal.count_ones-requires
count_ones-requires g c =
    let pieces = count-pieces _ _ c.bytes.result.0.now c.bytes.result.1.now c.requires.positive c.bytes.ensures.known c.bytes.ensures.items in
    omega (arith, c.requires.fits)

pub count_ones-requires-2 : goal.count_ones-requires-2
count_ones-requires-2 g c =
    let pieces = count-pieces _ _ c.bytes.result.0.now c.bytes.result.1.now c.requires.positive c.bytes.ensures.known c.bytes.ensures.items in
    omega (arith, c.requires.fits)

pub overflow_add-result : goal.overflow_add-result
overflow_add-result g c =
    let pieces = count-pieces _ _ c.bytes.result.0.now c.bytes.result.1.now c.requires.positive c.bytes.ensures.known c.bytes.ensures.items in
    omega (arith, c.requires.fits, c.count_ones.ensures, c.count_ones-2.ensures)

pub returns : goal.returns
returns g c =
    let pieces = count-pieces _ _ c.bytes.result.0.now c.bytes.result.1.now c.requires.positive c.bytes.ensures.known c.bytes.ensures.items in
    omega (arith, c.count_ones.ensures, c.count_ones-2.ensures)
