use Rattle.bitmap_session.specs.declared.command.Command.TheVariants.{Decode}
use Rattle.bitmap_session.proofs.Simulates.{step_in_place}
use Rattle.bitmap_session.proofs.Steps.{decoded_in}
use Rattle.bitmap_session.proofs.session.Session.decode.Goals as goal

pub returns : goal.returns
returns g c =
    step_in_place g.row.N _ c.args.self.now (Decode c.args.input.now c.args.range.now) _ c.self.view_is
    (decoded_in g.row.N c.self.inside.state c.args.input.now c.args.range.now _ (rw (← c.as_slice.ensures.value) c.decode.ensures))
