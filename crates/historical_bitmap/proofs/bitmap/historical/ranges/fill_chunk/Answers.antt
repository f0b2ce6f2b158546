use Rattle.std.proofs.Common.{◌≡◌, ◌*◌, ◌-◌, ◌∙◌, ap, arith}
use Rattle.std.specs.Prelude.{min}
use Rattle.historical_bitmap.proofs.EditedChunks.ManyChunks.{range_of_chunk}
use Rattle.historical_bitmap.proofs.bitmap.historical.ranges.fill_chunk.Goals as goal

pub returns : goal.returns
returns g c =
    let w = c.chunk_width-width.ensures in
    let start : c.chunk_width-width.result * c.args.index ≡ 8 * g.row.N * c.args.index = ap (λ y. y * c.args.index) w in
    let past : c.min-past.result ≡ min (c.args.to - 8 * g.row.N * c.args.index) (8 * g.row.N) = omega (arith, c.min-past.ensures, c.saturating_sub.ensures, w, start) in
    let from : c.saturating_sub-2.result ≡ c.args.from - 8 * g.row.N * c.args.index = c.saturating_sub-2.ensures ∙ ap (λ y. c.args.from - y) start in
    let set = c.set_in.ensures in
    (set.bytes, range_of_chunk g.row.N c.args.index c.args.from c.args.to c.saturating_sub-2.result c.min-past.result c.args.value _ set.bytes c.requires.width.positive from past set.set, set.edited)
