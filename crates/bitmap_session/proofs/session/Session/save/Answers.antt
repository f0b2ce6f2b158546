use Rattle.std.proofs.Common.{ap, subst, sym, ◌∙◌}
use Rattle.commit_log.specs.History.{HasLog, IsHistory}
use Rattle.bitmap_session.specs.Abstraction.{machine_of}
use Rattle.bitmap_session.specs.Machine.{Machine}
use Rattle.bitmap_session.specs.Saved.{kept_part}
use Rattle.bitmap_session.proofs.session.Session.save.Goals as goal

pub returns-in-Ok-clause-log : goal.returns-in-Ok-clause-log
returns-in-Ok-clause-log g c = subst (λ (m : Machine). HasLog g.row.N (kept_part m.state)) (ap (λ s. machine_of s) (sym c.in-Clean.is) ∙ c.self.view_is) c.in-Ok.ensures.log

pub returns-in-Ok-clause-ends : goal.returns-in-Ok-clause-ends
returns-in-Ok-clause-ends g c = subst (λ (m : Machine). IsHistory (kept_part m.state)) (ap (λ s. machine_of s) (sym c.in-Clean.is) ∙ c.self.view_is) c.in-Ok.ensures.ends
