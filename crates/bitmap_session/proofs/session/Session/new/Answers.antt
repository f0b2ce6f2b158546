use Rattle.std.proofs.Common.{ap, rules}
use Rattle.bitmap_session.proofs.KeptNumbers.{no_commits_rise}
use Rattle.bitmap_session.proofs.session.Session.new.Goals as goal

pub returns : goal.returns
returns g c = search rules

pub invariant_of-result : goal.invariant_of-result
invariant_of-result g c = (c.requires.width, no_commits_rise _ (ap (λ m. m.state.history) (returns g c)))
