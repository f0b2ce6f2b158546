use Rattle.std.proofs.Common.{◌-◌, ◌≤◌, length, sym, arith}
use Rattle.std.proofs.lemmas.Result.{err_from_is_err_and}
use Rattle.bitmap_core.specs.PrunedBits.{bit_len}
use Rattle.historical_bitmap.specs.View.{pending_of}
use Rattle.bitmap_session.specs.Edits.{shortens}
use Rattle.bitmap_session.proofs.Edits.Accepted.{pops_accepted}
use Rattle.bitmap_session.proofs.Edits.Calls.{made, not_made}
use Rattle.bitmap_session.proofs.session.edits.truncate.Goals as goal

pub returns-in_err-check_length : goal.returns-in_err-check_length
returns-in_err-check_length g c =
    let p = err_from_is_err_and c.from_residual.result c.from_residual.ensures.1 in
    rw (p.1, p.2) (not_made g.row.N c.args.bitmap.now (shortens g.row.N c.args.len) _ (sym c.in_err-check_length.ensures.why))

pub returns : goal.returns
returns g c =
    let b = pending_of g.row.N c.args.bitmap.now in
    let retained : bit_len g.row.N b - c.args.len ≤ length b.bits = omega (arith, c.in_ok-check_length.ensures.from, c.in_ok-check_length.ensures.to) in
    made g.row.N c.args.bitmap.now c.truncate.new.self (shortens g.row.N c.args.len) (sym c.in_ok-check_length.ensures.why)
    (pops_accepted g.row.N b (bit_len g.row.N b - c.args.len) retained)
    c.truncate.ensures.run
