use Rattle.std.proofs.Common.{refl}
use Rattle.std.proofs.lemmas.Result.{err_from_is_err_and}
use Rattle.historical_bitmap.specs.View.{pending_of}
use Rattle.bitmap_session.specs.Edits.{lengthens}
use Rattle.bitmap_session.proofs.Edits.Accepted.{zeros_accepted}
use Rattle.bitmap_session.proofs.Edits.Calls.{longer_if_failed, made, no_memory}
use Rattle.bitmap_session.proofs.session.edits.extend_to.Goals as goal

pub returns-in_err-try_extend_to : goal.returns-in_err-try_extend_to
returns-in_err-try_extend_to g c =
    let p = err_from_is_err_and c.from_residual.result c.from_residual.ensures.1 in
    let longer = longer_if_failed g.row.N c.args.bitmap.now c.args.len c.in_err-try_extend_to.ensures.edited in
    rw (p.1, p.2) (no_memory g.row.N c.args.bitmap.now c.try_extend_to.new.self (lengthens g.row.N c.args.len) refl longer c.in_err-try_extend_to.ensures.err)

pub returns : goal.returns
returns g c =
    made g.row.N c.args.bitmap.now c.try_extend_to.new.self (lengthens g.row.N c.args.len) refl
    (zeros_accepted g.row.N (pending_of g.row.N c.args.bitmap.now) c.args.len c.ranges.len.fits)
    c.in_ok-try_extend_to.ensures.ok
