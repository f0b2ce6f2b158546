use Rattle.std.proofs.Common.{◌≡◌, ◌+◌, length}
use Rattle.log_store.specs.Gate.{ReadsFrames}
use Rattle.log_store.proofs.unfinished.before_gate.Given as goal

abbrev pub invariant-loop-frame : goal.invariant-loop-frame
invariant-loop-frame l = record { reads : ReadsFrames l.width l.bytes l.place l.rest; end : l.place.at + length l.rest ≡ length l.bytes }

abbrev pub decreases-loop-frame : goal.decreases-loop-frame
decreases-loop-frame l = length l.rest
