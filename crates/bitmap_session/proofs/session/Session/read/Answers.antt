use Rattle.std.proofs.Common.{ap}
use Rattle.historical_bitmap.specs.View.{history_of}
use Rattle.bitmap_session.proofs.KeptNumbers.{no_commits_rise}
use Rattle.bitmap_session.proofs.session.Session.read.Goals as goal

pub invariant_of-result : goal.invariant_of-result
invariant_of-result g c = (c.requires.width, no_commits_rise _ (ap (λ v. history_of g.row.N v) c.from_bitmap.ensures))
