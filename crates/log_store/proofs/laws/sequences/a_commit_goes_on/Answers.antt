use Rattle.std.proofs.Common.{ap}
use Rattle.std.proofs.lemmas.Result.{IfErr-weaker}
use Rattle.commit_log.specs.Kept.{entry_of_commit, kept_of}
use Rattle.log_store.proofs.Sequenced.{appends_moved}
use Rattle.log_store.proofs.laws.sequences.a_commit_goes_on.Goals as goal

pub returns : goal.returns
returns g c device states before =
    let n = g.row.N in
    let old = c.args.batch in
    let done = c.commit.ensures in
    appends_moved n g.D.Device c.commit.result device states (kept_of n old.batch) (entry_of_commit n c.args.batch.batch c.args.number) old.log (λ s. kept_of n s.bitmap) (λ s. s.log) (λ s. kept_of n s.batch) (λ s. s.log) done.keeps done.fails
    (IfErr-weaker c.commit.result _ _ (λ p same. ap (kept_of n) same) done.unchanged) done.log done.read_only before
