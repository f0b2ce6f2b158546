use Rattle.std.proofs.Common.{◌≡◌, ◌==◌, map, not, take}
use Rattle.bitmap_c.proofs.bulk.bits_of.Given as goal

abbrev pub invariant-loop-i : goal.invariant-loop-i
invariant-loop-i l = record { so_far : l.bits.items ≡ map (λ byte. not (byte == 0)) (take l.i l.bytes) }
