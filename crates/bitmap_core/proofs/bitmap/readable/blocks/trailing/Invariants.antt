use Rattle.std.proofs.Common.{◌≡◌, ℕ, ◌+◌, ◌*◌, ◌<◌, ◌≤◌, false, length}
use Rattle.bitmap_bytes.specs.Bits.{chunks_bit}
use Rattle.bitmap_bytes.specs.Chunk.{is_wanted}
use Rattle.bitmap_core.proofs.bitmap.readable.blocks.trailing.Given as goal

abbrev pub invariant-loop-size : goal.invariant-loop-size
invariant-loop-size g l = record {
  within : l.left ≤ length l.chunks;
  taken : l.size ≤ l.left;
  small : l.size ≤ 256;
  none : (i : ℕ) → 8 * g.row.N * l.left ≤ i → i < 8 * g.row.N * length l.chunks → is_wanted l.wanted (chunks_bit g.row.N l.chunks i) ≡ false;
}

-- a step takes chunks or is smaller than the one before
abbrev pub decreases-loop-size : goal.decreases-loop-size
decreases-loop-size g l = 257 * l.left + l.size
