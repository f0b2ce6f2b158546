use Rattle.std.proofs.Common.{Ok, ap, arith}
use Rattle.historical_bitmap.proofs.bitmap.historical.pending.Dirty.push_byte.Goals as goal

pub append-requires : goal.append-requires
append-requires g c = rw (c.in_ok-crossed.ensures.other (ap Ok c.if-crossed.false), c.put_byte.ensures.other c.if-put_byte.false) (omega arith, (omega arith, (c.requires.edits_fit, (omega arith, (omega (arith, c.len.ensures.width.positive), c.requires.fits)))))
