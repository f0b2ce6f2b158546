use Rattle.std.proofs.Common.{sym}
use Rattle.std.proofs.lemmas.Bool.{lt-ltb}
use Rattle.std.proofs.lemmas.Result.{err_from_is_err_and}
use Rattle.historical_bitmap.specs.View.{pending_of}
use Rattle.bitmap_session.specs.Edits.{sets_range}
use Rattle.bitmap_session.proofs.Edits.Accepted.{sets_accepted}
use Rattle.bitmap_session.proofs.Edits.Calls.{made, no_memory, none_set, not_made}
use Rattle.bitmap_session.proofs.session.edits.set_range.Goals as goal

pub returns-then-start-end : goal.returns-then-start-end
returns-then-start-end g c = none_set g.row.N c.args.bitmap.now c.args.start c.args.end c.args.value c.if-start-end.true

pub returns-in_err-check_range : goal.returns-in_err-check_range
returns-in_err-check_range g c =
    let p = err_from_is_err_and c.from_residual.result c.from_residual.ensures.1 in
    rw (p.1, p.2) (not_made g.row.N c.args.bitmap.now (sets_range g.row.N c.args.start c.args.end c.args.value) _ (sym c.in_err-check_range.ensures.why))

pub returns-in_err-try_set_range : goal.returns-in_err-try_set_range
returns-in_err-try_set_range g c =
    let p = err_from_is_err_and c.from_residual-in_err-try_set_range.result c.from_residual-in_err-try_set_range.ensures.1 in
    rw (p.1, p.2) (no_memory g.row.N c.args.bitmap.now c.try_set_range.new.self (sets_range g.row.N c.args.start c.args.end c.args.value) (sym c.in_ok-check_range.ensures.why) (lt-ltb c.args.start c.args.end c.if-start-end.false) c.in_err-try_set_range.ensures.err)

pub returns : goal.returns
returns g c =
    made g.row.N c.args.bitmap.now c.try_set_range.new.self (sets_range g.row.N c.args.start c.args.end c.args.value) (sym c.in_ok-check_range.ensures.why)
    (sets_accepted g.row.N (pending_of g.row.N c.args.bitmap.now) c.args.start c.args.end c.args.value c.in_ok-check_range.ensures.from c.if-start-end.false c.in_ok-check_range.ensures.to)
    c.in_ok-try_set_range.ensures.ok
