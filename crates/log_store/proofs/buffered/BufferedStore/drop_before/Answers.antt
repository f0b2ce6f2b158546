use Rattle.std.proofs.Common.{[], ◌∷◌, ◌++◌, length, ap, sym, subst, ◌∙◌, arith}
use Rattle.commit_log.specs.Entries.Entry.{DropBefore}
use Rattle.commit_log.specs.Kept.{Kept, kept_of}
use Rattle.commit_log.proofs.Entries.{entry_some}
use Rattle.log_store.specs.Buffered.{IsWaiting}
use Rattle.log_store.proofs.BufferedLogs.{buffered_more}
use Rattle.log_store.proofs.buffered.BufferedStore.drop_before.Goals as goal

pub push-requires : goal.push-requires
push-requires g c = omega (arith, ap length (c.deref.ensures.value ∙ c.in-Ok.ensures), entry_some (DropBefore c.args.number))

pub returns-clause-waits : goal.returns-clause-waits
returns-clause-waits g c base begun waiting kept h =
    let n = g.row.N in
    let old = c.args.self.now in
    let e = DropBefore c.args.number in
    buffered_more n g.D.Device base begun waiting (waiting ++ e ∷ []) kept (kept_of n old.bitmap) (kept_of n c.drop_is_an_entry.new.bitmap) old.log old.waiting c.push.new.self h
    (λ w. subst (λ (t : Kept). IsWaiting n base begun (waiting ++ e ∷ []) t c.push.new.self) (sym c.drop_is_an_entry.ensures) (c.in-Ok-push.ensures.waits base begun waiting (kept_of n old.bitmap) e w (omega (arith, c.ranges.number.fits)) tt (c.deref.ensures.value ∙ c.in-Ok.ensures)))
