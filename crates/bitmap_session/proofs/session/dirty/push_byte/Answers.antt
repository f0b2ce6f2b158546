use Rattle.std.proofs.Common.{sym, ◌∙◌}
use Rattle.bitmap_session.proofs.Steps.{push_byte_accepted, is_false}
use Rattle.bitmap_session.proofs.session.dirty.push_byte.Goals as goal

pub returns-in-Ok : goal.returns-in-Ok
returns-in-Ok g c =
    let space = is_false _ (sym c.if-not-has_space.false ∙ c.has_space.ensures) in
    push_byte_accepted g.row.N c.args.bitmap.now c.try_push_byte.new.self c.args.byte space c.in-Ok.ensures.ok
