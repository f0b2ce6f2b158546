use Rattle.std.proofs.Common.{ap, ◌∙◌, sym}
use Rattle.bitmap_session.specs.declared.command.Command.TheVariants.{Chunk}
use Rattle.bitmap_session.specs.Abstraction.{machine_of}
use Rattle.bitmap_session.proofs.Simulates.{step_in_place}
use Rattle.bitmap_session.proofs.session.Session.chunk.Goals as goal

pub returns-in-Dirty : goal.returns-in-Dirty
returns-in-Dirty g c =
    let same = ap (λ s. machine_of s) (sym c.in-Dirty.is) ∙ c.self.view_is in
    step_in_place g.row.N _ c.args.self.now (Chunk c.args.position) _ same c.chunk-in-Dirty.ensures
