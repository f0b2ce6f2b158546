use Rattle.std.proofs.Common.{◌≡◌, [], ◌∷◌, ap, subst, sym, ◌∙◌}
use Rattle.std.specs.Prelude.{if◌then◌else◌}
use Rattle.commit_log.specs.Entries.{Entry}
use Rattle.commit_log.specs.Logs.{GoesOn}
use Rattle.bitmap_session.specs.Abstraction.{machine_of}
use Rattle.bitmap_session.specs.Logged.{appended_all}
use Rattle.bitmap_session.specs.Machine.{Machine, is_dirty}
use Rattle.bitmap_session.specs.Saved.{kept_part}
use Rattle.bitmap_session.proofs.WithEntries.{clear_follows}
use Rattle.bitmap_session.proofs.session.Session.push_clear.Goals as goal

pub returns-in-Ok-clause-log : goal.returns-in-Ok-clause-log
returns-in-Ok-clause-log g c =
    subst (λ (m : Machine). c.clear_logged.new.log ≡ appended_all c.args.log.now (if is_dirty m.state then [] else Entry.Clear ∷ [])) (ap (λ s. machine_of s) (sym c.in-Clean.is) ∙ c.self.view_is) c.in-Ok.ensures.written

pub returns-in-Ok-clause-follows : goal.returns-in-Ok-clause-follows
returns-in-Ok-clause-follows g c =
    subst (λ (m : Machine). GoesOn g.row.N (kept_part m.state) (if is_dirty m.state then [] else Entry.Clear ∷ [])) (ap (λ s. machine_of s) (sym c.in-Clean.is) ∙ c.self.view_is) (clear_follows g.row.N _ _ c.in-Ok.ensures.follows, tt)
