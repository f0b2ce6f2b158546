use Rattle.std.proofs.Common.{◌≡◌, ℕ, ◌<◌, ◌≤◌, false}
use Rattle.bitmap_core.specs.Meaning.{Meaning, seen_as}
use Rattle.bitmap_core.proofs.bitmap.readable.search.last_below.Given as goal

abbrev pub invariant-loop-top : goal.invariant-loop-top
invariant-loop-top g l =
    let m : Meaning = g.B.Readable.meaning l.readable in
    record {
      high : l.top ≤ l.end;
      none : (i : ℕ) → l.top ≤ i → i < l.end → (seen_as l.wanted m).bit i ≡ false;
    }

abbrev pub decreases-loop-top : goal.decreases-loop-top
decreases-loop-top g l = l.top
