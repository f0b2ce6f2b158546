use Rattle.std.proofs.Common.{◌≡◌, ℕ, false, eqb, get_or, take}
use Rattle.std.specs.Int.{bit_at}
use Rattle.bitmap_bytes.proofs.chunk.byte_of.Given as goal

abbrev pub invariant-loop-t : goal.invariant-loop-t
invariant-loop-t l = record { bits : (k : ℕ) → eqb (bit_at l.byte k) 1 ≡ get_or (take l.t l.bools) k false }
