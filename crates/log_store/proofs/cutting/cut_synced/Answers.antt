use Rattle.std.proofs.Common.{List, ℕ, take}
use Rattle.log_store.specs.Device.{MayTear}
use Rattle.log_store.proofs.Synced.{change_leaves, sync_leaves}
use Rattle.log_store.proofs.Tears.{as_before}
use Rattle.log_store.proofs.cutting.cut_synced.Goals as goal

pub returns-clause-any_moment : goal.returns-clause-any_moment
returns-clause-any_moment g c rest le =
    let old = c.args.device.now in
    let mid = c.cut_to.new.self in
    let seen = g.D.Device.seen old in
    let first = take c.args.len seen in
    let P : List ℕ → Type 0 = MayTear seen first in
    let works = c.cut_to.ensures.behaves rest.works in
    let crash = c.cut_to.ensures.crash rest.works rest.only le in
    let cut = change_leaves g.D.Device old mid P rest (λ f left. g.met.D.Device.only_now old f rest.works left) (c.cut_to.ensures.time rest.works) (as_before seen first) crash in
    sync_leaves g.D.Device old mid c.sync.new.self P cut (c.sync.ensures.time works) crash (c.sync.ensures.crash works)

pub returns-in_err-cut_to-clause-any_moment : goal.returns-in_err-cut_to-clause-any_moment
returns-in_err-cut_to-clause-any_moment g c rest le =
    let old = c.args.device.now in
    let seen = g.D.Device.seen old in
    let first = take c.args.len seen in
    change_leaves g.D.Device old c.cut_to.new.self (MayTear seen first) rest (λ f left. g.met.D.Device.only_now old f rest.works left) (c.cut_to.ensures.time rest.works) (as_before seen first) (c.cut_to.ensures.crash rest.works rest.only le)
