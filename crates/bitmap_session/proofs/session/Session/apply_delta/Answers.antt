use Rattle.std.proofs.Common.{ap, subst, sym, ◌∙◌}
use Rattle.bitmap_session.specs.Abstraction.{machine_of}
use Rattle.bitmap_session.specs.Laws.{HasRisingNumbers}
use Rattle.bitmap_session.specs.Machine.{Machine}
use Rattle.bitmap_session.specs.Saved.{AppliesDelta}
use Rattle.bitmap_session.proofs.session.Session.apply_delta.Goals as goal

pub returns-clause-outside : goal.returns-clause-outside
returns-clause-outside g c =
    let same = ap (λ s. machine_of s) c.replace-state.ensures.value ∙ c.self.view_is in
    let r = c.applied-result.result in
    let applied = subst (λ (m : Machine). AppliesDelta g.row.N c.args.bytes.now m r.0 (machine_of r.1)) same c.applied-result.ensures in
    applied.outside

pub returns-clause-entry : goal.returns-clause-entry
returns-clause-entry g c =
    let same = ap (λ s. machine_of s) c.replace-state.ensures.value ∙ c.self.view_is in
    let r = c.applied-result.result in
    let applied = subst (λ (m : Machine). AppliesDelta g.row.N c.args.bytes.now m r.0 (machine_of r.1)) same c.applied-result.ensures in
    applied.entry

pub returns-clause-error : goal.returns-clause-error
returns-clause-error g c =
    let same = ap (λ s. machine_of s) c.replace-state.ensures.value ∙ c.self.view_is in
    let r = c.applied-result.result in
    let applied = subst (λ (m : Machine). AppliesDelta g.row.N c.args.bytes.now m r.0 (machine_of r.1)) same c.applied-result.ensures in
    applied.error

pub returns-clause-unchanged : goal.returns-clause-unchanged
returns-clause-unchanged g c =
    let same = ap (λ s. machine_of s) c.replace-state.ensures.value ∙ c.self.view_is in
    let r = c.applied-result.result in
    let applied = subst (λ (m : Machine). AppliesDelta g.row.N c.args.bytes.now m r.0 (machine_of r.1)) same c.applied-result.ensures in
    applied.unchanged

pub returns-clause-complete : goal.returns-clause-complete
returns-clause-complete g c =
    let same = ap (λ s. machine_of s) c.replace-state.ensures.value ∙ c.self.view_is in
    let r = c.applied-result.result in
    let applied = subst (λ (m : Machine). AppliesDelta g.row.N c.args.bytes.now m r.0 (machine_of r.1)) same c.applied-result.ensures in
    applied.complete

pub returns-clause-newer : goal.returns-clause-newer
returns-clause-newer g c =
    let same = ap (λ s. machine_of s) c.replace-state.ensures.value ∙ c.self.view_is in
    let r = c.applied-result.result in
    let applied = subst (λ (m : Machine). AppliesDelta g.row.N c.args.bytes.now m r.0 (machine_of r.1)) same c.applied-result.ensures in
    applied.newer

pub invariant_of-self : goal.invariant_of-self
invariant_of-self g c = (
  c.self.invariant.0,
  c.applied-result.ensures.rises (subst (λ s. HasRisingNumbers (machine_of s).state) (sym c.replace-state.ensures.value) c.self.invariant.1),
)
