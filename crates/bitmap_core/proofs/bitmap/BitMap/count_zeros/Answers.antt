use Rattle.std.proofs.Common.{arith}
use Rattle.bitmap_bytes.proofs.Counting.Places.{count-not}
use Rattle.bitmap_core.proofs.bitmap.BitMap.count_zeros.Goals as goal

pub returns : goal.returns
returns g c = omega (arith, c.len.ensures.value, c.count_ones.ensures, count-not c.args.self.now)
