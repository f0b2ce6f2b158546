use Rattle.std.proofs.Common.{◌+◌, ◌*◌, ◌≤◌, length, arith, subst, sym}
use Rattle.std.specs.Int.{div_ceil}
use Rattle.bitmap_core.specs.PrunedBits.{bit_len}
use Rattle.bitmap_core.proofs.Pruned.Positions.{ceil_front}
use Rattle.bitmap_core.proofs.bitmap.prunable.Prunable.extend_from_bitmap.Goals as goal

pub returns-clause-has_capacity : goal.returns-clause-has_capacity
returns-clause-has_capacity g c = λ h.
    let cached = c.self.invariant in
    let space : bit_len g.row.N (record {
      pruned = c.self.inside.pruned_chunks;
      bits = c.self.inside.bitmap;
    }) + length c.args.other.now ≤ 8 * g.row.N * div_ceil (8 * g.row.N * c.self.inside.pruned_chunks + length c.self.inside.bitmap) (8 * g.row.N) =
    subst (λ b. bit_len g.row.N b + length c.args.other.now ≤ 8 * g.row.N * div_ceil (bit_len g.row.N b) (8 * g.row.N)) (sym c.self.view_is) h in
    c.extend_from_bitmap.ensures.has_capacity
    (omega (arith, space, ceil_front g.row.N c.self.inside.pruned_chunks (length c.self.inside.bitmap) cached.width.positive))
