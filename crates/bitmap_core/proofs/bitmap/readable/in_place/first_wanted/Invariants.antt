use Rattle.std.proofs.Common.{◌≡◌, ℕ, ◌-◌, ◌*◌, ◌<◌, ◌≤◌, false, length}
use Rattle.bitmap_bytes.specs.Bits.{chunks_bit}
use Rattle.bitmap_bytes.specs.Chunk.{is_wanted}
use Rattle.bitmap_core.proofs.bitmap.readable.in_place.first_wanted.Given as goal

abbrev pub invariant-loop-index : goal.invariant-loop-index
invariant-loop-index l = record {
  within : l.index ≤ length l.words;
  counted : l.loaded ≡ l.index;
  same : l.loads ≡ l.initial.loads;
  none : (i : ℕ) → i < 64 * l.index → is_wanted l.wanted (chunks_bit 8 l.words i) ≡ false;
}

abbrev pub decreases-loop-index : goal.decreases-loop-index
decreases-loop-index l = length l.words - l.index
