use Rattle.std.proofs.Common.{◌≡◌, ◌<◌, length, ap, arith, length-append}
use Rattle.std.proofs.lemmas.Result.{on_ok_weaker}
use Rattle.log_store.proofs.Gates.{appended_leaves, set_leaves, set_within, shut_leaves, shut_seen}
use Rattle.log_store.proofs.gate.shut.Goals as goal

pub returns-then-at-len-clause-any_moment : goal.returns-then-at-len-clause-any_moment
returns-then-at-len-clause-any_moment g c good rest h is at_is len_is =
    let none : length rest ≡ 0 = omega (arith, c.if-at-len.true, at_is, len_is) in
    appended_leaves g.D.Device c.args.device.now c.append_synced.new.device good rest is none (c.append_synced.ensures.any_moment h)

pub returns-in_err-set_synced-clause-any_moment : goal.returns-in_err-set_synced-clause-any_moment
returns-in_err-set_synced-clause-any_moment g c good rest h is at_is len_is =
    let some : 0 < length rest = omega (arith, c.if-at-len.false, c.requires, at_is, len_is) in
    let within : c.args.at < length (g.D.Device.seen c.args.device.now) = omega (arith, some, at_is, ap length is, length-append good rest) in
    set_leaves g.D.Device c.args.device.now c.set_synced.new.device good rest c.args.at is at_is some (c.set_synced.ensures.any_moment h within)

pub returns-clause-any_moment : goal.returns-clause-any_moment
returns-clause-any_moment g c good rest h is at_is len_is =
    let old = c.args.device.now in
    let mid = c.set_synced.new.device in
    let some : 0 < length rest = omega (arith, c.if-at-len.false, c.requires, at_is, len_is) in
    let within : c.args.at < length (g.D.Device.seen old) = omega (arith, some, at_is, ap length is, length-append good rest) in
    let done = c.in_ok-set_synced.ensures.written h within in
    shut_leaves g.D.Device old mid c.cut_synced.new.device good rest c.args.at is at_is some (c.set_synced.ensures.any_moment h within) done.1 (c.cut_synced.ensures.any_moment done.0 (set_within g.D.Device old mid good rest c.args.at is at_is some done.1))

pub returns-clause-shut : goal.returns-clause-shut
returns-clause-shut g c good rest h is at_is len_is =
    let old = c.args.device.now in
    let mid = c.set_synced.new.device in
    let some : 0 < length rest = omega (arith, c.if-at-len.false, c.requires, at_is, len_is) in
    let within : c.args.at < length (g.D.Device.seen old) = omega (arith, some, at_is, ap length is, length-append good rest) in
    let done = c.in_ok-set_synced.ensures.written h within in
    on_ok_weaker c.cut_synced.result (λ cut. (cut.0, shut_seen g.D.Device old mid c.cut_synced.new.device good rest c.args.at is at_is some done.1 cut.1))
    (c.cut_synced.ensures.cut done.0 (set_within g.D.Device old mid good rest c.args.at is at_is some done.1))
