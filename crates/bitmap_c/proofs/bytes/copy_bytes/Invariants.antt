use Rattle.std.proofs.Common.{◌≡◌, ℕ, ◌+◌, ◌-◌, ◌*◌, ◌<◌, ◌≤◌, length}
use Rattle.bitmap_bytes.specs.Chunk.{bytes_bit}
use Rattle.bitmap_core.specs.Meaning.{Meaning}
use Rattle.bitmap_c.proofs.bytes.copy_bytes.Given as goal

abbrev pub invariant-loop-at : goal.invariant-loop-at
invariant-loop-at g l =
    let m : Meaning = g.B.Readable.meaning l.bitmap in
    record {
      within : l.at ≤ length l.initial.out;
      size : length l.out ≡ length l.initial.out;
      done : (i : ℕ) → i < 8 * l.at → 8 * l.first + i < m.len → bytes_bit l.out i ≡ m.bit (8 * l.first + i);
    }

abbrev pub decreases-loop-at : goal.decreases-loop-at
decreases-loop-at g l = length l.initial.out - l.at
