use Rattle.std.proofs.Common.{ap}
use Rattle.std.proofs.lemmas.Result.{on_err_weaker}
use Rattle.commit_log.specs.Entries.Entry.{DropBefore}
use Rattle.commit_log.specs.Kept.{kept_of}
use Rattle.log_store.proofs.Sequenced.{appends}
use Rattle.log_store.proofs.laws.sequences.a_drop_goes_on.Goals as goal

pub returns : goal.returns
returns g c device states before =
    let n = g.row.N in
    let old = c.args.store.now in
    let new = c.drop_before.new.self in
    let done = c.drop_before.ensures in
    appends n g.D.Device c.drop_before.result device states (kept_of n old.bitmap) (kept_of n new.bitmap) (DropBefore c.args.number) old.log new.log done.keeps done.fails
    (on_err_weaker c.drop_before.result (λ same. ap (kept_of n) same) done.unchanged) done.log done.read_only before
