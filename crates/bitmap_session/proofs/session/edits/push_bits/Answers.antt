use Rattle.std.proofs.Common.{length, refl, sym, ◌∙◌}
use Rattle.std.proofs.lemmas.Result.{err_from_is_err_and}
use Rattle.historical_bitmap.specs.View.{pending_of}
use Rattle.bitmap_session.specs.Edits.{appends_bits}
use Rattle.bitmap_session.specs.Replies.Refusal.{TooLong}
use Rattle.bitmap_session.proofs.Edits.Accepted.{pushes_accepted}
use Rattle.bitmap_session.proofs.Edits.Calls.{below_64, is_true, made, no_memory, not_made, some_if_failed, some_if_not_edited}
use Rattle.bitmap_session.proofs.Steps.{is_false}
use Rattle.bitmap_session.proofs.session.edits.push_bits.Goals as goal

pub returns-then-not-has_space : goal.returns-then-not-has_space
returns-then-not-has_space g c =
    not_made g.row.N c.args.bitmap.now (appends_bits g.row.N c.args.bits.now) TooLong (rw (is_true _ (sym c.if-not-has_space.true ∙ c.has_space.ensures)) refl)

pub returns-in_err-appended : goal.returns-in_err-appended
returns-in_err-appended g c =
    let p = err_from_is_err_and c.from_residual.result c.from_residual.ensures.1 in
    let space = is_false _ (sym c.if-not-has_space.false ∙ c.has_space.ensures) in
    let some = some_if_failed (length c.args.bits.now) c.in_err-appended.ensures.none in
    rw (p.1, p.2) (no_memory g.row.N c.args.bitmap.now c.args.bitmap.now (appends_bits g.row.N c.args.bits.now) (rw space refl) some refl)

pub returns-in_err-try_extend_from_bitmap : goal.returns-in_err-try_extend_from_bitmap
returns-in_err-try_extend_from_bitmap g c =
    let p = err_from_is_err_and c.from_residual-in_err-try_extend_from_bitmap.result c.from_residual-in_err-try_extend_from_bitmap.ensures.1 in
    let space = is_false _ (sym c.if-not-has_space.false ∙ c.has_space.ensures) in
    let some = some_if_not_edited g.row.N c.args.bitmap.now (length c.args.bits.now) (rw c.in_ok-appended.ensures.ok at c.in_err-try_extend_from_bitmap.ensures.edited) in
    rw (p.1, p.2) (no_memory g.row.N c.args.bitmap.now c.try_extend_from_bitmap.new.self (appends_bits g.row.N c.args.bits.now) (rw space refl) some c.in_err-try_extend_from_bitmap.ensures.err)

pub returns : goal.returns
returns g c =
    let space = is_false _ (sym c.if-not-has_space.false ∙ c.has_space.ensures) in
    made g.row.N c.args.bitmap.now c.try_extend_from_bitmap.new.self (appends_bits g.row.N c.args.bits.now) (rw space refl)
    (pushes_accepted g.row.N (pending_of g.row.N c.args.bitmap.now) c.args.bits.now (below_64 _ space))
    (rw c.in_ok-appended.ensures.ok at c.in_ok-try_extend_from_bitmap.ensures.ok)
