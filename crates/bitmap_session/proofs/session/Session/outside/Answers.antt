use Rattle.bitmap_session.proofs.KeptNumbers.{latest_is_last_rises}
use Rattle.bitmap_session.proofs.session.Session.outside.Goals as goal

pub invariant_of-result : goal.invariant_of-result
invariant_of-result g c = (c.len.ensures.width, latest_is_last_rises _ c.commits.ensures.ascending c.last_number.ensures.latest)
