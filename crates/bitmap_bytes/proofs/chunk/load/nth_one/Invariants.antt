use Rattle.bitmap_bytes.proofs.Counting.Parts.{IsTaken}
use Rattle.bitmap_bytes.proofs.chunk.load.nth_one.Given as goal

abbrev pub invariant-loop : goal.invariant-loop
invariant-loop l = IsTaken l.word l.rest l.counter
