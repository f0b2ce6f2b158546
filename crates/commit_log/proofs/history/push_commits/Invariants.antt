use Rattle.std.proofs.Common.{length}
use Rattle.historical_bitmap.specs.View.{history_of}
use Rattle.commit_log.proofs.Histories.{LensFitOn, WritesOn}
use Rattle.commit_log.proofs.history.push_commits.Given as goal

abbrev pub invariant-loop-to : goal.invariant-loop-to
invariant-loop-to g l =
    WritesOn g.row.N (history_of g.row.N l.bitmap) l.from l.numbers l.fn.place l.fn.out.items l.out.items l.place × LensFitOn g.row.N (history_of g.row.N l.bitmap) l.numbers

abbrev pub decreases-loop-to : goal.decreases-loop-to
decreases-loop-to g l = length l.numbers
