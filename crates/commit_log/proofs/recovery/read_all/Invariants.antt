use Rattle.std.proofs.Common.{◌≡◌, ◌+◌, length}
use Rattle.commit_log.specs.Kept.{kept_of}
use Rattle.commit_log.specs.Recovered.{ReadsTo}
use Rattle.commit_log.proofs.recovery.read_all.Given as goal

abbrev pub invariant-loop-frame : goal.invariant-loop-frame
invariant-loop-frame g l = record { reads : ReadsTo g.row.N l.bytes (kept_of g.row.N l.bitmap) l.place l.rest; end : l.place.at + length l.rest ≡ length l.bytes }

abbrev pub decreases-loop-frame : goal.decreases-loop-frame
decreases-loop-frame g l = length l.rest
