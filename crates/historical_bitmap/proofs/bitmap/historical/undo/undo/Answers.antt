use Rattle.std.proofs.Common.{◌≡◌, ℕ, ◌*◌, ◌<◌, ap, arith, ◌∙◌}
use Rattle.std.specs.Int.{div_ceil}
use Rattle.std.proofs.lemmas.Nat.{mul-le}
use Rattle.bitmap_core.proofs.Pruned.Positions.{ceil_above_index}
use Rattle.historical_bitmap.proofs.bitmap.historical.undo.undo.Goals as goal

pub rebuilt-requires : goal.rebuilt-requires
rebuilt-requires g c =
    let pos = c.len.ensures.width.positive in
    let total : c.chunk_count.result ≡ div_ceil c.args.diff.now.len (8 * g.row.N) = c.chunk_count.ensures ∙ ap (λ (l : ℕ). div_ceil l (8 * g.row.N)) c.len-2.ensures.value in
    let less : div_ceil c.args.diff.now.len (8 * g.row.N) < c.args.newer.now.pruned = omega (arith, c.if-chunk_count-pruned_chunks.true, total, c.pruned_chunks.ensures) in
    let below = mul-le (8 * g.row.N) (div_ceil c.args.diff.now.len (8 * g.row.N)) (8 * g.row.N) c.args.newer.now.pruned (omega arith) (omega (arith, less)) in (
      omega arith,
      (
        omega (arith, c.len.ensures.width.fits),
        (
          c.requires.fits,
          (
            omega (arith, below, c.len.ensures.bound),
            (
              λ i low start. c.requires.pruned i low (omega (arith, less, ceil_above_index g.row.N c.args.diff.now.len i pos start)) start,
              c.requires.sorted,
            ),
          ),
        ),
      ),
    )
