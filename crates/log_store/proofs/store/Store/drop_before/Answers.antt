use Rattle.std.proofs.Common.{length, ap, sym, subst, ◌∙◌, arith}
use Rattle.commit_log.specs.Entries.Entry.{DropBefore}
use Rattle.commit_log.specs.Kept.{Kept, kept_of}
use Rattle.commit_log.proofs.Entries.{entry_some}
use Rattle.log_store.specs.Store.{Keeps}
use Rattle.log_store.proofs.store.Store.drop_before.Goals as goal

pub append-requires : goal.append-requires
append-requires g c = omega (arith, ap length (c.deref.ensures.value ∙ c.in-Ok.ensures), entry_some (DropBefore c.args.number))

pub returns-clause-keeps : goal.returns-clause-keeps
returns-clause-keeps g c base begun kept h =
    let n = g.row.N in
    let old = c.args.self.now in
    let done = c.in_ok-append.ensures.kept base begun kept (kept_of n old.bitmap) (DropBefore c.args.number) h (omega (arith, c.ranges.number.fits)) tt (c.deref.ensures.value ∙ c.in-Ok.ensures) in
    subst (λ (t : Kept). Keeps n g.D.Device base begun kept old.log (DropBefore c.args.number) t c.append.new.self) (sym c.drop_is_an_entry.ensures) done
