use Rattle.std.proofs.Common.{refl}
use Rattle.historical_bitmap.proofs.bitmap.historical.lengths.BitMap+N+Dirty+N.extend_from_bitmap.Goals as goal

pub returns : goal.returns
returns g c =
    let tried = c.in_ok-try_extend_from_bitmap.ensures in (
      (rw c.new.ensures.same refl, λ w. refl, tt),
      record {
        refused = tt;
        same_reference = c.new.ensures.same;
        pending = rw c.new.ensures.value tried.pending;
        ok = rw c.new.ensures.value tried.ok;
        keeps = rw c.new.ensures.value tried.keeps;
        edited = λ all. refl;
      },
    )
