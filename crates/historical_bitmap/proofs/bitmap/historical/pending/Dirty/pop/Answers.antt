use Rattle.std.proofs.Common.{◌≡◌, ℕ, ◌-◌, ◌*◌, ◌/◌, ◌%◌, ◌<◌, ◌≤◌, None, refl, sym, ap, ◌∙◌, arith}
use Rattle.std.specs.Prelude.{nat_eq}
use Rattle.std.specs.Map.{lookup}
use Rattle.historical_bitmap.specs.CachedWord.{with_cached}
use Rattle.historical_bitmap.proofs.Pending.Ends.{past_index}
use Rattle.historical_bitmap.proofs.Pending.Writes.{pops_inside}
use Rattle.historical_bitmap.proofs.bitmap.historical.pending.Dirty.pop.Goals as goal

pub returns-clause-pops : goal.returns-clause-pops
returns-clause-pops g c =
    let rest : 0 < (c.self.inside.len - 1) % (8 * g.row.N) = omega (arith, rw c.chunk_width.ensures at c.if-last-chunk_width-eq0.false) in
    rw (sym c.self.view_is) (pops_inside g.row.N _ _ refl refl refl rest c.clear_bit.ensures.none c.clear_bit.ensures.some)

pub remove-requires : goal.remove-requires
remove-requires g c =
    let last : (q : ℕ) → c.self.inside.len ≤ 8 * g.row.N * q → lookup (nat_eq q) (with_cached g.row.N c.self.inside.edited c.self.inside.cache) ≡ None = rw (sym c.self.view_is) at c.requires.last in (
      omega (arith, c.self.invariant.width.fits),
      (
        omega (arith, c.self.invariant.width.fits),
        λ q h.
            let past : (c.self.inside.len - 1) / (8 * g.row.N) < q = omega (arith, h, c.chunk_index-index.ensures) in
            let under = past_index g.row.N (c.self.inside.len - 1) q c.self.invariant.width.positive past in
            ap (λ es. lookup (nat_eq q) es) c.settle.ensures.value ∙ last q (omega (arith, under)),
      ),
    )
