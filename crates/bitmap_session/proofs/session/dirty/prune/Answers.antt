use Rattle.std.proofs.Common.{◌≤◌, arith}
use Rattle.bitmap_core.specs.PrunedBits.{bit_len}
use Rattle.historical_bitmap.specs.View.{pending_of}
use Rattle.bitmap_session.proofs.Steps.{prune_accepted, not_below}
use Rattle.bitmap_session.proofs.session.dirty.prune.Goals as goal

pub returns-in-Ok : goal.returns-in-Ok
returns-in-Ok g c =
    let within : c.args.position ≤ bit_len g.row.N (pending_of g.row.N c.args.bitmap.now) = omega (arith, c.len.ensures.value) in
    prune_accepted g.row.N c.args.bitmap.now c.try_prune_to_bit.new.self c.args.position (not_below _ _ within) c.in-Ok.ensures.ok
