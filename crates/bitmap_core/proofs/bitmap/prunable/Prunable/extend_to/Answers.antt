use Rattle.std.proofs.Common.{◌≡◌, ◌+◌, ◌*◌, ◌≤◌, ◌∙◌, ap, length, arith, subst, sym}
use Rattle.std.specs.Int.{div_ceil}
use Rattle.bitmap_core.specs.PrunedBits.{bit_len, pruned_bits}
use Rattle.bitmap_core.proofs.Pruned.Positions.{ceil_front}
use Rattle.bitmap_core.proofs.bitmap.prunable.Prunable.extend_to.Goals as goal

pub returns-clause-has_capacity : goal.returns-clause-has_capacity
returns-clause-has_capacity g c = λ h.
    let cached = c.self.invariant in
    let space : c.args.n ≤ 8 * g.row.N * div_ceil (8 * g.row.N * c.self.inside.pruned_chunks + length c.self.inside.bitmap) (8 * g.row.N) =
    subst (λ b. c.args.n ≤ 8 * g.row.N * div_ceil (bit_len g.row.N b) (8 * g.row.N)) (sym c.self.view_is) h in
    let front : c.pruned_bits-pruned.result ≡ 8 * g.row.N * c.self.inside.pruned_chunks =
    c.pruned_bits-pruned.ensures
    ∙ ap (λ b. pruned_bits g.row.N b) (sym c.self.view_is) in
    c.extend_to.ensures.has_capacity
    (omega (arith, space, front, ceil_front g.row.N c.self.inside.pruned_chunks (length c.self.inside.bitmap) cached.width.positive))
