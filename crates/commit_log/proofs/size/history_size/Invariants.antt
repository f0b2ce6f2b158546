use Rattle.std.proofs.Common.{length}
use Rattle.historical_bitmap.specs.View.{history_of}
use Rattle.commit_log.specs.Kept.{kept_of}
use Rattle.commit_log.proofs.Sizes.{SizesOn, before_commits, commits_place}
use Rattle.commit_log.proofs.size.history_size.Given as goal

abbrev pub invariant-loop-to : goal.invariant-loop-to
invariant-loop-to g l = SizesOn g.row.N (history_of g.row.N l.bitmap) l.from l.numbers (commits_place g.row.N (kept_of g.row.N l.bitmap)) (before_commits g.row.N (kept_of g.row.N l.bitmap)) l.size

abbrev pub decreases-loop-to : goal.decreases-loop-to
decreases-loop-to g l = length l.numbers
