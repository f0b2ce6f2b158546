use Rattle.std.proofs.Common.{◌/◌, ◌%◌, arith}
use Rattle.std.proofs.lemmas.Nat.{mod_below}
use Rattle.bitmap_bytes.proofs.chunk.whole.combine_in_place.Goals as goal

pub returns : goal.returns
returns g c = λ i. c.loop-j.invariant.done (i / 8 % g.row.N) (omega (arith, mod_below (i / 8) g.row.N c.requires)) (i % 8)
