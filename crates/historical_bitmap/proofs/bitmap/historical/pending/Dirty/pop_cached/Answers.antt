use Rattle.std.proofs.Common.{ℕ, List, ◌-◌, ◌*◌, ◌%◌, ◌<◌, refl, sym, ap, ◌∙◌, arith}
use Rattle.std.specs.Option.{option_map}
use Rattle.bitmap_bytes.specs.Chunk.{chunk_bit}
use Rattle.historical_bitmap.proofs.Lists.Maps.{not_some}
use Rattle.historical_bitmap.proofs.Pending.Writes.{pops_inside}
use Rattle.historical_bitmap.proofs.bitmap.historical.pending.Dirty.pop_cached.Goals as goal

pub returns-clause-pops : goal.returns-clause-pops
returns-clause-pops g c =
    let rest : 0 < (c.self.inside.len - 1) % (8 * g.row.N) = omega (arith, rw c.chunk_width.ensures at c.if-last-chunk_width-eq0.false) in
    let bit = λ (bytes : List ℕ). chunk_bit g.row.N bytes (c.self.inside.len - 1) in
    rw (sym c.self.view_is) (pops_inside g.row.N _ _ refl refl refl rest (λ e. absurd (not_some _ (c.in_ok-bit.ensures.bit ∙ ap (option_map bit) e))) c.in_ok-bit.ensures.some)
