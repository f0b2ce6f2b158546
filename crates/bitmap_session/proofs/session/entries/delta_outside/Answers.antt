use Rattle.std.proofs.Common.{ap, refl, subst, sym}
use Rattle.bitmap_session.specs.Abstraction.{clean}
use Rattle.bitmap_session.specs.Laws.{HasRisingNumbers}
use Rattle.bitmap_session.specs.Machine.{Machine}
use Rattle.bitmap_session.specs.declared.session.saved.ApplyDeltaError.TheVariants.{Delta}
use Rattle.bitmap_session.proofs.KeptNumbers.{latest_is_last_rises}
use Rattle.bitmap_session.proofs.session.entries.delta_outside.Goals as goal

pub returns-in-Ok : goal.returns-in-Ok
returns-in-Ok g c = record {
  applied = record {
    outside = ((refl, refl), (refl, refl));
    entry = c.in-Ok.ensures.brings;
    error = tt;
    unchanged = tt;
    complete = λ t outside brings. tt;
    newer = λ from to bitmap outside step last is. c.in-Ok.ensures.newer from to bitmap step last is;
    rises = λ rise. latest_is_last_rises _ c.commits.ensures.ascending c.last_number.ensures.latest;
  };
  log = c.in-Ok.ensures.written;
  follows = c.in-Ok.ensures.follows;
  kept = c.in-Ok.ensures.entry;
  unlogged = tt;
}

pub returns-in-Err : goal.returns-in-Err
returns-in-Err g c =
    let same = ap (λ b. clean g.row.N b) c.in-Err.ensures.unchanged in
    record {
      applied = record {
        outside = tt;
        entry = tt;
        error = ((refl, refl), c.in-Err.ensures.error);
        unchanged = same;
        complete = λ t outside brings. ap (λ e. Delta e) (c.in-Err.ensures.complete t brings);
        newer = λ from to bitmap outside step last is. ap (λ e. Delta e) (c.in-Err.ensures.newer from to bitmap step last is);
        rises = λ rise. subst (λ (m : Machine). HasRisingNumbers m.state) (sym same) rise;
      };
      log = tt;
      follows = tt;
      kept = tt;
      unlogged = c.in-Err.ensures.nothing;
    }
