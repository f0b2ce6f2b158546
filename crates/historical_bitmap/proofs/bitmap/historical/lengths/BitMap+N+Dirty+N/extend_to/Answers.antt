use Rattle.std.proofs.Common.{refl}
use Rattle.historical_bitmap.proofs.bitmap.historical.lengths.BitMap+N+Dirty+N.extend_to.Goals as goal

pub returns : goal.returns
returns g c =
    let tried = c.in_ok-try_extend_to.ensures in (
      (rw c.new.ensures.same refl, λ w. refl, tt),
      record {
        refused = tt;
        same_reference = c.new.ensures.same;
        pending = rw c.new.ensures.value tried.pending;
        ok = rw c.new.ensures.value tried.ok;
        same = λ low. rw c.new.ensures.value (tried.same low);
        keeps = rw c.new.ensures.value tried.keeps;
        edited = λ all. refl;
      },
    )
