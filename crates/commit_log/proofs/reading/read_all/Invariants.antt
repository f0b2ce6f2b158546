use Rattle.std.proofs.Common.{◌≡◌, ◌+◌, length}
use Rattle.commit_log.specs.Kept.{kept_of}
use Rattle.commit_log.specs.Reading.{ReadsPart, ranges}
use Rattle.commit_log.proofs.reading.read_all.Given as goal

-- a part of the history is read, and these commits are left
abbrev pub invariant-loop-left : goal.invariant-loop-left
invariant-loop-left g l = record {
  part : ReadsPart g.row.N (ranges l.bits l.commits) l.fn.bytes (kept_of g.row.N l.bitmap) l.place l.left l.rest;
  end : l.place.at + length l.rest ≡ length l.fn.bytes;
}

abbrev pub decreases-loop-left : goal.decreases-loop-left
decreases-loop-left g l = l.left
