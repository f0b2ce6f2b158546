use Rattle.std.proofs.Common.{◌++◌, List, ℕ}
use Rattle.log_store.specs.Device.{MayTear}
use Rattle.log_store.proofs.Synced.{change_leaves, sync_leaves}
use Rattle.log_store.proofs.Tears.{as_before}
use Rattle.log_store.proofs.appending.append_synced.Goals as goal

pub returns-clause-any_moment : goal.returns-clause-any_moment
returns-clause-any_moment g c rest =
    let old = c.args.device.now in
    let mid = c.append.new.self in
    let seen = g.D.Device.seen old in
    let P : List ℕ → Type 0 = MayTear seen (seen ++ c.args.bytes.now) in
    let works = c.append.ensures.behaves rest.works in
    let crash = c.append.ensures.crash rest.works rest.only in
    let appended = change_leaves g.D.Device old mid P rest (λ f left. g.met.D.Device.only_now old f rest.works left) (c.append.ensures.time rest.works) (as_before seen (seen ++ c.args.bytes.now)) crash in
    sync_leaves g.D.Device old mid c.sync.new.self P appended (c.sync.ensures.time works) crash (c.sync.ensures.crash works)

pub returns-in_err-append-clause-any_moment : goal.returns-in_err-append-clause-any_moment
returns-in_err-append-clause-any_moment g c rest =
    let old = c.args.device.now in
    let seen = g.D.Device.seen old in
    let torn = seen ++ c.args.bytes.now in
    change_leaves g.D.Device old c.append.new.self (MayTear seen torn) rest (λ f left. g.met.D.Device.only_now old f rest.works left) (c.append.ensures.time rest.works) (as_before seen torn) (c.append.ensures.crash rest.works rest.only)
