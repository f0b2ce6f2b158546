use Rattle.std.proofs.Common.{refl}
use Rattle.bitmap_bytes.proofs.Lists.Bits.{bits_are}
use Rattle.bitmap_core.proofs.bitmap.BitMap.from_bools.Goals as goal

pub returns-clause-ok : goal.returns-clause-ok
returns-clause-ok g c = bits_are _ _ _ _ refl (λ i _. c.in_ok-from_bools.ensures.bits i)
