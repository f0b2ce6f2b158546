use Rattle.std.proofs.Common.{◌≡◌, take}
use Rattle.chunk_map.proofs.places.Places.compacted.Given as goal

abbrev pub invariant-loop-place : goal.invariant-loop-place
invariant-loop-place l = l.compact ≡ take l.place l.self
