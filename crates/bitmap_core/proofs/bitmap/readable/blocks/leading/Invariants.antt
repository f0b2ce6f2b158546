use Rattle.std.proofs.Common.{◌≡◌, ◌+◌, ◌-◌, ◌*◌, ◌≤◌, length}
use Rattle.bitmap_bytes.specs.Bits.{chunks_bit}
use Rattle.bitmap_bytes.specs.Chunk.{is_wanted}
use Rattle.bitmap_bytes.proofs.Counting.Ones.{ones_from}
use Rattle.bitmap_core.proofs.bitmap.readable.blocks.leading.Given as goal

abbrev pub invariant-loop-size : goal.invariant-loop-size
invariant-loop-size g l = record {
  within : l.count + l.size ≤ length l.chunks;
  small : l.size ≤ 256;
  counted : l.total ≡ ones_from (λ i. is_wanted l.wanted (chunks_bit g.row.N l.chunks i)) 0 (8 * g.row.N * l.count);
  few : l.total ≤ l.k;
}

-- a step takes chunks or is smaller than the one before
abbrev pub decreases-loop-size : goal.decreases-loop-size
decreases-loop-size g l = 257 * (length l.chunks - l.count) + l.size
