use Rattle.std.proofs.Common.{[], ◌∷◌, ◌++◌, length, ap, sym, subst, ◌∙◌, arith}
use Rattle.commit_log.specs.Entries.Entry.{Rewind}
use Rattle.commit_log.specs.Kept.{Kept, kept_of}
use Rattle.commit_log.proofs.Entries.{entry_some}
use Rattle.commit_log.specs.Logs.{LogView}
use Rattle.log_store.specs.Buffered.{IsWaiting}
use Rattle.log_store.proofs.buffered.rewind_waiting.Goals as goal

pub push-requires : goal.push-requires
push-requires g c = omega (arith, ap length (c.deref.ensures.value ∙ c.in-Ok.ensures.encoded), entry_some (Rewind c.args.number))

pub returns-in-Ok-rewind_is_an_entry-clause-waits :
    goal.returns-in-Ok-rewind_is_an_entry-clause-waits
returns-in-Ok-rewind_is_an_entry-clause-waits g c base begun entries h =
    let n = g.row.N in
    let e = Rewind c.args.number in
    let done = c.in_default.ensures.waits base begun entries (kept_of n c.args.bitmap) e h (omega (arith, c.ranges.number.fits)) c.in-Ok.ensures.accepted (c.deref.ensures.value ∙ c.in-Ok.ensures.encoded) in
    subst (λ (t : Kept). IsWaiting n base begun (entries ++ e ∷ []) t c.push.new.self) (sym c.in-Ok-rewind_is_an_entry.ensures.entry) done

pub returns-clause-nothing : goal.returns-clause-nothing
returns-clause-nothing g c = c.cut_back.ensures c.args.waiting.now _ (ap (λ (w : LogView). w.bytes) c.in_default.ensures.ok) c.end-before.ensures
