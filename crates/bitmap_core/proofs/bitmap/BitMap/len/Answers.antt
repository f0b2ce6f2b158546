use Rattle.bitmap_bytes.proofs.Lists.Bits.{len_is}
use Rattle.std.proofs.Common.{sym, arith}
use Rattle.bitmap_core.proofs.bitmap.BitMap.len.Goals as goal

pub returns-clause-value : goal.returns-clause-value
returns-clause-value g c = sym (len_is _ _ _ _ c.self.view_is)

pub returns-clause-bound : goal.returns-clause-bound
returns-clause-bound g c = omega (arith, len_is _ _ _ _ c.self.view_is)
