use Rattle.std.proofs.Common.{[], ◌∷◌, ◌++◌, length, ap, sym, subst, ◌∙◌, arith}
use Rattle.commit_log.specs.Entries.Entry.{Clear}
use Rattle.commit_log.specs.Kept.{Kept, kept_of}
use Rattle.commit_log.proofs.Entries.{entry_some}
use Rattle.log_store.specs.Buffered.{IsWaiting}
use Rattle.log_store.proofs.BufferedLogs.{buffered_more}
use Rattle.log_store.proofs.buffered.BufferedStore.clear.Goals as goal

pub push-requires : goal.push-requires
push-requires g c = omega (arith, ap length (c.deref.ensures.value ∙ c.in-Ok.ensures), entry_some Clear)

pub returns-clause-waits : goal.returns-clause-waits
returns-clause-waits g c base begun waiting kept h =
    let n = g.row.N in
    let old = c.args.self.now in
    let e = Clear in
    buffered_more n g.D.Device base begun waiting (waiting ++ e ∷ []) kept (kept_of n old.bitmap) (kept_of n c.clear_is_an_entry.new.bitmap) old.log old.waiting c.push.new.self h
    (λ w. subst (λ (t : Kept). IsWaiting n base begun (waiting ++ e ∷ []) t c.push.new.self) (sym c.clear_is_an_entry.ensures) (c.in-Ok-push.ensures.waits base begun waiting (kept_of n old.bitmap) e w tt tt (c.deref.ensures.value ∙ c.in-Ok.ensures)))
