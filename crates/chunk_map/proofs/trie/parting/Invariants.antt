use Rattle.std.proofs.Common.{◌≢◌, ◌-◌, ◌/◌, ◌^◌, ◌≤◌}
use Rattle.chunk_map.specs.Trie.{IsShift}
use Rattle.chunk_map.proofs.trie.parting.Given as goal

abbrev pub invariant-loop-shift : goal.invariant-loop-shift
invariant-loop-shift l = record {
  fits : IsShift l.shift;
  from : l.from ≤ l.shift;
  apart : l.a / 2 ^ l.shift ≢ l.b / 2 ^ l.shift;
}

abbrev pub decreases-loop-shift : goal.decreases-loop-shift
decreases-loop-shift l = 64 - l.shift
