use Rattle.std.proofs.Common.{◌+◌, ◌-◌, ◌*◌, ◌<◌, ◌≤◌, ◌∙◌, length, ap, arith}
use Rattle.std.proofs.lemmas.Bool.Decides.{nat_tests}
use Rattle.bitmap_core.proofs.Slices.{held_bits, part_length, whole_below}
use Rattle.bitmap_core.proofs.bitmap.readable.search.slice_below.Goals as goal

pub returns-clause-within : goal.returns-clause-within
returns-clause-within g c =
    let m = g.B.Readable.meaning c.args.readable.now in
    let around = c.chunks_around-first.result in
    let some : 0 < length around.0.now = grind (arith, nat_tests) in
    let included = c.chunks_around-first.ensures.included some in
    let retained : m.pruned ≤ around.1 = omega (arith, (c.chunks_around-first.ensures.retained 0 some).0) in
    let w = whole_below g.row.N m.pruned c.args.top _ c.chunk_index-index.result around.1 c.requires.lawful.width.positive (omega (arith, c.if-low-top.false))
    c.requires.aligned c.chunk_index-index.ensures retained included in
    omega (arith, w.1, w.2, c.requires.low, ap (λ k. 8 * g.row.N * k) (part_length (c.chunk_index-index.result - around.1 + 1) 0 around.0.now (omega (arith, w.0))))

pub returns-clause-bits : goal.returns-clause-bits
returns-clause-bits g c = λ i h.
    let m = g.B.Readable.meaning c.args.readable.now in
    let around = c.chunks_around-first.result in
    let some : 0 < length around.0.now = grind (arith, nat_tests) in
    let included = c.chunks_around-first.ensures.included some in
    let retained : m.pruned ≤ around.1 = omega (arith, (c.chunks_around-first.ensures.retained 0 some).0) in
    let w = whole_below g.row.N m.pruned c.args.top _ c.chunk_index-index.result around.1 c.requires.lawful.width.positive (omega (arith, c.if-low-top.false))
    c.requires.aligned c.chunk_index-index.ensures retained included in
    let size = ap (λ k. 8 * g.row.N * k) (part_length (c.chunk_index-index.result - around.1 + 1) 0 around.0.now (omega (arith, w.0))) in
    held_bits g.row.N m around.1 (8 * g.row.N * around.1) 0 (c.chunk_index-index.result - around.1 + 1) around.0.now c.requires.lawful.width.positive c.chunks_around-first.ensures.shown
    (ap (λ k. 8 * g.row.N * k) (omega arith)) (omega (arith, w.0)) (omega (arith, w.1, c.requires.within)) i h
    ∙ ap m.bit (omega (arith, w.1, size))
