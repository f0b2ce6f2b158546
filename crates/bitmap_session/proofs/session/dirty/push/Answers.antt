use Rattle.std.proofs.Common.{sym, ◌∙◌}
use Rattle.bitmap_session.proofs.Steps.{push_accepted, is_false}
use Rattle.bitmap_session.proofs.session.dirty.push.Goals as goal

pub returns-in-Ok : goal.returns-in-Ok
returns-in-Ok g c =
    let space = is_false _ (sym c.if-not-has_space.false ∙ c.has_space.ensures) in
    push_accepted g.row.N c.args.bitmap.now c.try_push.new.self c.args.value space c.in-Ok.ensures.ok
