use Rattle.std.proofs.Common.{◌≡◌, true, [], ◌∷◌, inl, inr, length, refl, ap, sym, subst, ◌∙◌, arith}
use Rattle.commit_log.specs.Kept.{Kept, entry_of_commit, kept_of}
use Rattle.commit_log.proofs.Entries.{entry_some}
use Rattle.log_store.specs.Store.{Becomes, Keeps}
use Rattle.log_store.specs.declared.stored_log.StoredLog.{StoredLog}
use Rattle.log_store.proofs.Stored.{nothing, unapplied}
use Rattle.log_store.proofs.store.StoreBatch.commit.Goals as goal

pub append-requires : goal.append-requires
append-requires g c = omega (arith, ap length (c.deref.ensures.value ∙ c.in-Ok.ensures.encoded), entry_some (entry_of_commit g.row.N c.args.self.batch c.args.number))

pub returns-then-log-clause-fails : goal.returns-then-log-clause-fails
returns-then-log-clause-fails g c base begun kept h =
    inl (nothing g.row.N g.D.Device base begun kept _ c.args.self.log (λ f works left. g.met.D.Device.only_now c.args.self.log.device f works left) h)

pub returns-in-Err-clause-fails : goal.returns-in-Err-clause-fails
returns-in-Err-clause-fails g c base begun kept h =
    inl (nothing g.row.N g.D.Device base begun kept _ c.args.self.log (λ f works left. g.met.D.Device.only_now c.args.self.log.device f works left) h)

pub returns-in-Err-append-clause-fails : goal.returns-in-Err-append-clause-fails
returns-in-Err-append-clause-fails g c base begun kept h =
    c.in-Err-append.ensures.fails base begun kept (kept_of g.row.N c.args.self.batch) (entry_of_commit g.row.N c.args.self.batch c.args.number) h c.in-Ok.ensures.fits c.in-Ok.ensures.accepted (c.deref.ensures.value ∙ c.in-Ok.ensures.encoded)

pub returns-in-Ok-commit_is_an_entry-clause-keeps :
    goal.returns-in-Ok-commit_is_an_entry-clause-keeps
returns-in-Ok-commit_is_an_entry-clause-keeps g c base begun kept h =
    let n = g.row.N in
    let done = c.in_default.ensures.kept base begun kept (kept_of n c.args.self.batch) (entry_of_commit g.row.N c.args.self.batch c.args.number) h c.in-Ok.ensures.fits c.in-Ok.ensures.accepted (c.deref.ensures.value ∙ c.in-Ok.ensures.encoded) in
    subst (λ (t : Kept). Keeps n g.D.Device base begun kept c.args.self.log (entry_of_commit g.row.N c.args.self.batch c.args.number) t c.append.new.self) (sym c.in-Ok-commit_is_an_entry.ensures.entry) done

pub returns-clause-fails : goal.returns-clause-fails
returns-clause-fails g c base begun kept h =
    let n = g.row.N in
    let state = kept_of n c.args.self.batch in
    let done = c.in_default.ensures.kept base begun kept state (entry_of_commit g.row.N c.args.self.batch c.args.number) h c.in-Ok.ensures.fits c.in-Ok.ensures.accepted (c.deref.ensures.value ∙ c.in-Ok.ensures.encoded) in
    let same : kept_of n c.in-Err-commit_is_an_entry.refused.0 ≡ state = ap (kept_of n) c.in-Err-commit_is_an_entry.ensures.unchanged in
    let log : StoredLog g.row.D.Denot = record { place = c.append.new.self.place; device = c.append.new.self.device; is_read_only = true } in
    inr (subst (λ (t : Kept). Becomes n g.D.Device base begun kept c.args.self.log ((entry_of_commit g.row.N c.args.self.batch c.args.number) ∷ []) kept t log) (sym same) (unapplied n g.D.Device base begun kept state _ (entry_of_commit g.row.N c.args.self.batch c.args.number) c.args.self.log c.append.new.self log h done refl refl))
