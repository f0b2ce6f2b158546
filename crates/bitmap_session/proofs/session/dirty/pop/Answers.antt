use Rattle.std.proofs.Common.{◌≡◌, length, false, arith}
use Rattle.std.specs.Prelude.{◌==◌}
use Rattle.historical_bitmap.specs.View.{pending_of}
use Rattle.bitmap_session.proofs.Steps.{pop_accepted, not_zero}
use Rattle.bitmap_session.proofs.session.dirty.pop.Goals as goal

pub returns : goal.returns
returns g c =
    let some : (length (pending_of g.row.N c.args.bitmap.now).bits == 0) ≡ false = not_zero _ (omega arith) in
    rw c.pop.ensures.value (pop_accepted g.row.N c.args.bitmap.now c.pop.new.self some c.pop.ensures.edit)
