use Rattle.bitmap_session.specs.Abstraction.{dirty}
use Rattle.bitmap_session.proofs.Steps.{no_refusal_of, set_accepted}
use Rattle.bitmap_session.proofs.session.dirty.set.Goals as goal

pub returns-in-Ok : goal.returns-in-Ok
returns-in-Ok g c =
    let retained = no_refusal_of g.row.N (dirty g.row.N c.args.bitmap.now).state _ _ c.args.position c.len.ensures.value c.pruned_bits.ensures c.in_default.ensures.why in
    set_accepted g.row.N c.args.bitmap.now c.try_set_bit.new.self c.args.position c.args.value retained c.in-Ok.ensures.ok
