use Rattle.std.proofs.Common.{◌-◌, ◌^◌, ◌≤◌, ◌<◌}
use Rattle.chunk_map.specs.Next.{AreFrom}
use Rattle.chunk_map.proofs.next.next_from.Given as goal

abbrev pub invariant-loop-slot : goal.invariant-loop-slot
invariant-loop-slot l = record {
  fits : l.at < 2 ^ 64;
  from_on : l.from ≤ l.at;
  all : AreFrom l.keys l.from l.at;
}

abbrev pub decreases-loop-slot : goal.decreases-loop-slot
decreases-loop-slot l = 2 ^ 64 - l.at
