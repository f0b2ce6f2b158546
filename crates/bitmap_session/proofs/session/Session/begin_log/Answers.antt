use Rattle.std.proofs.Common.{◌≡◌, ap, refl, subst, sym, ◌∙◌}
use Rattle.commit_log.specs.History.{HasLog, IsHistory, history_bytes, history_place}
use Rattle.bitmap_session.specs.Abstraction.{machine_of}
use Rattle.bitmap_session.specs.Machine.{Machine}
use Rattle.bitmap_session.specs.Saved.{IsOutside, kept_part}
use Rattle.bitmap_session.proofs.WithEntries.{begun_logged}
use Rattle.bitmap_session.proofs.session.Session.begin_log.Goals as goal

pub returns-in-Ok-clause-log : goal.returns-in-Ok-clause-log
returns-in-Ok-clause-log g c =
    subst (λ (m : Machine). c.in-Ok.log ≡ record { bytes = history_bytes g.row.N (kept_part m.state); place = history_place g.row.N (kept_part m.state) }) (ap (λ s. machine_of s) (sym c.in-Clean.is) ∙ c.self.view_is) c.in-Ok.ensures.value

pub returns-in-Ok-clause-outside : goal.returns-in-Ok-clause-outside
returns-in-Ok-clause-outside g c = subst (λ (m : Machine). IsOutside m) (ap (λ s. machine_of s) (sym c.in-Clean.is) ∙ c.self.view_is) (refl, refl)

pub returns-in-Ok-clause-logged : goal.returns-in-Ok-clause-logged
returns-in-Ok-clause-logged g c =
    let m = c.args.self.now in
    let s = kept_part m.state in
    let state = ap (λ s. machine_of s) (sym c.in-Clean.is) ∙ c.self.view_is in
    let pos = c.has_width.ensures.positive in
    let has = subst (λ (m : Machine). HasLog g.row.N (kept_part m.state)) state c.in-Ok.ensures.log in
    let ends = subst (λ (m : Machine). IsHistory (kept_part m.state)) state c.in-Ok.ensures.ends in
    begun_logged g.row.N m c.in-Ok.log (c.a_compacted_log_makes_each_state.ensures.is_log g.row.N s pos has) (c.a_compacted_log_makes_each_state.ensures.made g.row.N s pos ends) (returns-in-Ok-clause-log g c)
