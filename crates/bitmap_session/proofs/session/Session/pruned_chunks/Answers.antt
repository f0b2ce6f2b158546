use Rattle.std.proofs.Common.{ap, ◌∙◌, sym}
use Rattle.bitmap_session.specs.declared.command.Command.TheVariants.{PrunedChunks}
use Rattle.bitmap_session.specs.Abstraction.{machine_of}
use Rattle.bitmap_session.proofs.Simulates.{step_in_place}
use Rattle.bitmap_session.proofs.session.Session.pruned_chunks.Goals as goal

pub returns-in-Dirty : goal.returns-in-Dirty
returns-in-Dirty g c =
    let same = ap (λ s. machine_of s) (sym c.in-Dirty.is) ∙ c.self.view_is in
    step_in_place g.row.N _ c.args.self.now PrunedChunks _ same c.pruned_chunks-in-Dirty.ensures
