use Rattle.std.proofs.Common.{◌≡◌, ◌-◌, ◌≤◌, max}
use Rattle.bitmap_bytes.proofs.Counting.Ones.{ones_from}
use Rattle.bitmap_core.specs.Meaning.{Meaning, seen_as}
use Rattle.bitmap_core.proofs.bitmap.readable.search.first_from.Given as goal

abbrev pub invariant-loop-at : goal.invariant-loop-at
invariant-loop-at g l =
    let m : Meaning = g.B.Readable.meaning l.readable in
    record {
      low : l.first ≤ l.at;
      high : l.at ≤ max l.first l.len;
      none : ones_from (seen_as l.wanted m).bit l.first (l.at - l.first) ≡ 0;
    }

abbrev pub decreases-loop-at : goal.decreases-loop-at
decreases-loop-at g l = l.len - l.at
