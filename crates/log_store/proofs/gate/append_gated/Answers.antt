use Rattle.std.proofs.Common.{◌<◌, ◌∷◌, [], length, ap, arith, length-append}
use Rattle.log_store.specs.Gate.{closed}
use Rattle.log_store.proofs.Gates.{append_gated_leaves, gated_leaves}
use Rattle.log_store.proofs.gate.append_gated.Goals as goal

pub returns-in_err-append_synced-clause-any_moment : goal.returns-in_err-append_synced-clause-any_moment
returns-in_err-append_synced-clause-any_moment g c good rest is at_is =
    append_gated_leaves g.D.Device c.args.device.now c.append_synced.new.device good c.args.first c.args.rest.now is (c.append_synced.ensures.any_moment rest)

pub returns-clause-any_moment : goal.returns-clause-any_moment
returns-clause-any_moment g c good rest is at_is =
    let old = c.args.device.now in
    let mid = c.append_synced.new.device in
    let done = c.in_ok-append_synced.ensures.written rest in
    let within : c.args.at < length (g.D.Device.seen mid) =
    omega (arith, at_is, ap length done.1, ap length is, length-append (g.D.Device.seen old) c.args.rest.now, length-append good (closed ∷ [])) in
    gated_leaves g.D.Device old mid c.set_synced.new.device good c.args.first c.args.rest.now c.args.at is at_is (c.append_synced.ensures.any_moment rest) done.1 (c.set_synced.ensures.any_moment done.0 within)
