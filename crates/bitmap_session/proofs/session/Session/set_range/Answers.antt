use Rattle.std.proofs.Common.{ap, ◌∙◌, sym}
use Rattle.bitmap_session.specs.Abstraction.{machine_of}
use Rattle.bitmap_session.specs.Edits.{reason_in, sets_range}
use Rattle.bitmap_session.proofs.Edits.Calls.{edits_between, edits_rise, wrong_mode}
use Rattle.bitmap_session.proofs.session.Session.set_range.Goals as goal
use Rattle.bitmap_session.proofs.session.Session.set_range.Goals.{in-Dirty, in-Clean}

pub returns : goal.returns
returns g c =
    let call = sets_range g.row.N c.args.start c.args.end c.args.value in
    elim c.match-self.branch [
      | in-Dirty w ↦ edits_between g.row.N _ _ call _ _ _ _ (ap (λ s. machine_of s) (sym w.in-Dirty.is) ∙ c.self.view_is) (ap (λ r. reason_in r) w.result-is) (ap (λ i. machine_of i.state) w.self-inside-is) w.set_range.ensures
      | in-Clean w ↦ edits_between g.row.N _ _ call _ _ _ _ (ap (λ s. machine_of s) (sym w.in-Clean.is) ∙ c.self.view_is) (ap (λ r. reason_in r) w.result-is) (ap (λ i. machine_of i.state) w.self-inside-is ∙ ap (λ s. machine_of s) w.in-Clean.is) (wrong_mode g.row.N w.in-Clean.field-0 call)
    ]

pub invariant_of-self : goal.invariant_of-self
invariant_of-self g c =
    (c.self.invariant.0, edits_rise g.row.N _ c.args.self.now _ (sets_range g.row.N c.args.start c.args.end c.args.value) _ c.self.view_is c.self.invariant.1 (returns g c))
