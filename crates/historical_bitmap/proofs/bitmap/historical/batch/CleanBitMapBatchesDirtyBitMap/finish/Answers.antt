use Rattle.std.proofs.Common.{Err, refl}
use Rattle.historical_bitmap.proofs.bitmap.historical.batch.CleanBitMapBatchesDirtyBitMap.finish.Goals as goal

pub returns-in-Err-commit : goal.returns-in-Err-commit
returns-in-Err-commit g c =
    let why = c.in-Err-commit.ensures in
    rw c.in_default.is (
      Err (c.in-Err-commit.left, c.in-Err-commit.why),
      record { accepted = tt; refused = why.refused; unchanged = why.unchanged; current = tt; history = tt; earlier = tt; last = tt; costs = tt },
      rw c.abort-in-Err-commit.ensures refl,
    )
