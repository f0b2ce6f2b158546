use Rattle.std.proofs.Common.{◌≡◌, ◌+◌, ◌-◌, ◌*◌, ◌/◌, ap, arith}
use Rattle.std.proofs.lemmas.Bool.Decides.{nat_tests}
use Rattle.std.proofs.lemmas.Nat.{div-add-mod'}
use Rattle.bitmap_core.proofs.Slices.{held_bits, part_length, whole_within}
use Rattle.bitmap_core.proofs.bitmap.readable.search.slice_from.Goals as goal

pub returns-clause-within : goal.returns-clause-within
returns-clause-within g c =
    let around = c.chunks_around-first.result in
    let included = c.chunks_around-first.ensures.included (grind (arith, nat_tests)) in
    let w = whole_within g.row.N c.args.at c.args.end _ c.chunk_index-index.result around.1 c.min-count.result c.requires.order included c.min-count.ensures in
    omega (arith, w.1, ap (λ k. 8 * g.row.N * k) (part_length _ _ around.0.now w.0))

pub returns-clause-bits : goal.returns-clause-bits
returns-clause-bits g c =
    let m = g.B.Readable.meaning c.args.readable.now in
    let around = c.chunks_around-first.result in
    let included = c.chunks_around-first.ensures.included (grind (arith, nat_tests)) in
    let w = whole_within g.row.N c.args.at c.args.end _ c.chunk_index-index.result around.1 c.min-count.result c.requires.order included c.min-count.ensures in
    let index : around.1 + (c.chunk_index-index.result - around.1) ≡ c.args.at / (8 * g.row.N) = omega (arith, included, c.chunk_index-index.ensures) in
    held_bits g.row.N m around.1 c.args.at _ _ around.0.now c.requires.lawful.width.positive c.chunks_around-first.ensures.shown
    (omega (arith, div-add-mod' c.args.at (8 * g.row.N), c.if-at-width-ne0.false, ap (λ k. 8 * g.row.N * k) index))
    w.0 (omega (arith, w.1, c.requires.within))
