use Rattle.std.proofs.Common.{ap}
use Rattle.std.proofs.lemmas.Result.{on_err_weaker}
use Rattle.commit_log.specs.Entries.Entry.{Clear}
use Rattle.commit_log.specs.Kept.{kept_of}
use Rattle.log_store.proofs.Sequenced.{appends}
use Rattle.log_store.proofs.laws.sequences.a_clear_goes_on.Goals as goal

pub returns : goal.returns
returns g c device states before =
    let n = g.row.N in
    let old = c.args.store.now in
    let new = c.clear.new.self in
    let done = c.clear.ensures in
    appends n g.D.Device c.clear.result device states (kept_of n old.bitmap) (kept_of n new.bitmap) Clear old.log new.log done.keeps done.fails
    (on_err_weaker c.clear.result (λ same. ap (kept_of n) same) done.unchanged) done.log done.read_only before
