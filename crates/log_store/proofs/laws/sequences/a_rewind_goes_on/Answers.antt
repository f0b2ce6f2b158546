use Rattle.std.proofs.Common.{ap}
use Rattle.std.proofs.lemmas.Result.{IfErr-weaker}
use Rattle.commit_log.specs.Entries.Entry.{Rewind}
use Rattle.commit_log.specs.Kept.{kept_of}
use Rattle.log_store.proofs.Sequenced.{appends_moved}
use Rattle.log_store.proofs.laws.sequences.a_rewind_goes_on.Goals as goal

pub returns : goal.returns
returns g c device states before =
    let n = g.row.N in
    let old = c.args.store in
    let done = c.rewind_to.ensures in
    appends_moved n g.D.Device c.rewind_to.result device states (kept_of n old.bitmap) (Rewind c.args.number) old.log (λ s. kept_of n s.bitmap) (λ s. s.log) (λ s. kept_of n s.bitmap) (λ s. s.log) done.keeps done.fails
    (IfErr-weaker c.rewind_to.result _ _ (λ p same. ap (kept_of n) same) done.unchanged) done.log done.read_only before
