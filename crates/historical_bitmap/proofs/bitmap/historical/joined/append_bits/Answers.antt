use Rattle.std.proofs.Common.{◌≡◌, ℕ, ◌+◌, ◌*◌, ◌/◌, ◌<◌, length, ap, ◌∙◌, arith}
use Rattle.std.proofs.Math.Nat.{mul-div-le}
use Rattle.std.specs.Int.{div_ceil}
use Rattle.bitmap_core.specs.PrunedBits.{chunk, truncated}
use Rattle.bitmap_core.proofs.Pruned.Positions.{ceil_above_index, index_below_ceil}
use Rattle.historical_bitmap.proofs.EditedChunks.JoinedBits.{each_opened, opened_and_joined}
use Rattle.historical_bitmap.proofs.bitmap.historical.joined.append_bits.Goals as goal

pub join_each-requires : goal.join_each-requires
join_each-requires g c =
    let pos = c.len.ensures.width.positive in
    let past : c.chunk_count-past.result ≡ div_ceil (c.args.len + length c.args.bits.now) (8 * g.row.N) = c.chunk_count-past.ensures ∙ ap (λ (k : ℕ). div_ceil (c.args.len + k) (8 * g.row.N)) c.len.ensures.value in
    let starts : 8 * g.row.N * (c.args.len / (8 * g.row.N)) < c.args.len + length c.args.bits.now = omega (arith, mul-div-le c.args.len (8 * g.row.N), c.requires.some) in (
      omega (arith, c.len.ensures.width.fits),
      (
        omega (arith, c.len.ensures.width.fits),
        (
          c.len.ensures.width,
          (
            omega (arith, c.chunk_index-first.ensures),
            (
              omega (arith, c.chunk_index-first.ensures, past, ceil_above_index g.row.N (c.args.len + length c.args.bits.now) (c.args.len / (8 * g.row.N)) pos starts),
              (
                λ q h. let below : 8 * g.row.N * q < c.args.len + length c.args.bits.now = index_below_ceil g.row.N (c.args.len + length c.args.bits.now) q pos (rw past at h) in omega (arith, below, c.requires.fits),
                each_opened g.row.N (chunk g.row.N (truncated g.row.N c.args.current.now c.args.len)) c.args.chunks.now c.open_to.new.chunks c.open_to.new.chunks c.chunk_index-first.result c.chunk_count-past.result c.args.len c.args.bits.now c.in_ok-open_to.ensures.ok,
              ),
            ),
          ),
        ),
      ),
    )

pub returns-clause-ok : goal.returns-clause-ok
returns-clause-ok g c =
    rw (c.chunk_index-first.ensures, c.chunk_count-past.ensures, c.len.ensures.value)
    at (opened_and_joined g.row.N (chunk g.row.N (truncated g.row.N c.args.current.now c.args.len)) c.args.chunks.now c.open_to.new.chunks c.join_each.new.chunks c.chunk_index-first.result c.chunk_count-past.result c.args.len c.args.bits.now c.in_ok-open_to.ensures.ok c.join_each.ensures)
