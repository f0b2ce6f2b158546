use Rattle.std.proofs.Common.{◌≡◌, ℕ, ◌<◌, ◌≤◌, false}
use Rattle.bitmap_bytes.specs.Chunk.{chunk_bit, is_wanted}
use Rattle.bitmap_bytes.proofs.chunk.range.last_in.Given as goal

abbrev pub invariant-loop-top : goal.invariant-loop-top
invariant-loop-top g l = record {
  high : l.top ≤ l.to;
  none : (i : ℕ) → l.top ≤ i → i < l.to → is_wanted l.wanted (chunk_bit g.row.N l.chunk i) ≡ false;
}

abbrev pub decreases-loop-top : goal.decreases-loop-top
decreases-loop-top g l = l.top
