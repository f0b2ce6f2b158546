use Rattle.std.proofs.Common.{◌≡◌, ◌+◌, ◌-◌, ◌*◌, ◌≤◌, length}
use Rattle.bitmap_bytes.specs.Words.{IsCut}
use Rattle.bitmap_core.specs.Meaning.{Meaning, IsScan, left_from, seen_as}
use Rattle.bitmap_core.proofs.bitmap.readable.ones.advance.Given as goal

abbrev pub invariant-loop-cursor : goal.invariant-loop-cursor
invariant-loop-cursor g l =
    let m : Meaning = g.B.Readable.meaning l.readable in
    record {
      scan : IsScan g.row.N m l.cursor.next l.end l.rest l.cursor.chunk l.cursor.loads l.cursor.first;
      cut : IsCut l.cursor.base l.cursor.word l.end;
      first : l.cursor.first ≡ l.initial.cursor.first;
      counted : l.initial.cursor.loads ≤ l.cursor.loads;
      left : left_from (seen_as l.wanted m) l.cursor.base l.cursor.word l.cursor.next l.end
          ≡ left_from (seen_as l.wanted m) l.initial.cursor.base l.initial.cursor.word l.initial.cursor.next l.end;
    }

-- a step moves on or gets words in place
abbrev pub decreases-loop-cursor : goal.decreases-loop-cursor
decreases-loop-cursor g l = 2 * (l.end - l.cursor.next) + (1 - length l.rest)
