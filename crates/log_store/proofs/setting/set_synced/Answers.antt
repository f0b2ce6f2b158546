use Rattle.std.proofs.Common.{List, ℕ}
use Rattle.log_store.specs.Device.{MayTear, with_byte}
use Rattle.log_store.proofs.Synced.{change_leaves, sync_leaves}
use Rattle.log_store.proofs.Tears.{as_before}
use Rattle.log_store.proofs.setting.set_synced.Goals as goal

pub returns-clause-any_moment : goal.returns-clause-any_moment
returns-clause-any_moment g c rest lt =
    let old = c.args.device.now in
    let mid = c.set_byte.new.self in
    let seen = g.D.Device.seen old in
    let set = with_byte c.args.at c.args.byte seen in
    let P : List ℕ → Type 0 = MayTear seen set in
    let works = c.set_byte.ensures.behaves rest.works in
    let crash = c.set_byte.ensures.crash rest.works rest.only lt in
    let changed = change_leaves g.D.Device old mid P rest (λ f left. g.met.D.Device.only_now old f rest.works left) (c.set_byte.ensures.time rest.works) (as_before seen set) crash in
    sync_leaves g.D.Device old mid c.sync.new.self P changed (c.sync.ensures.time works) crash (c.sync.ensures.crash works)

pub returns-in_err-set_byte-clause-any_moment : goal.returns-in_err-set_byte-clause-any_moment
returns-in_err-set_byte-clause-any_moment g c rest lt =
    let old = c.args.device.now in
    let seen = g.D.Device.seen old in
    let set = with_byte c.args.at c.args.byte seen in
    change_leaves g.D.Device old c.set_byte.new.self (MayTear seen set) rest (λ f left. g.met.D.Device.only_now old f rest.works left) (c.set_byte.ensures.time rest.works) (as_before seen set) (c.set_byte.ensures.crash rest.works rest.only lt)
