use Rattle.std.proofs.Common.{length, ap, sym, subst, ◌∙◌, arith}
use Rattle.commit_log.specs.Entries.Entry.{Clear}
use Rattle.commit_log.specs.Kept.{Kept, kept_of}
use Rattle.commit_log.proofs.Entries.{entry_some}
use Rattle.log_store.specs.Store.{Keeps}
use Rattle.log_store.proofs.store.Store.clear.Goals as goal

pub append-requires : goal.append-requires
append-requires g c = omega (arith, ap length (c.deref.ensures.value ∙ c.in-Ok.ensures), entry_some Clear)

pub returns-clause-keeps : goal.returns-clause-keeps
returns-clause-keeps g c base begun kept h =
    let n = g.row.N in
    let old = c.args.self.now in
    let done = c.in_ok-append.ensures.kept base begun kept (kept_of n old.bitmap) Clear h tt tt (c.deref.ensures.value ∙ c.in-Ok.ensures) in
    subst (λ (t : Kept). Keeps n g.D.Device base begun kept old.log Clear t c.append.new.self) (sym c.clear_is_an_entry.ensures) done
