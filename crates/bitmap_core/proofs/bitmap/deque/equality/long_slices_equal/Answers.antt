use Rattle.std.proofs.Common.{◌≡◌, ◌*◌, ◌/◌, length, ap, ◌∙◌, arith}
use Rattle.std.specs.Simd.{first_chunks}
use Rattle.std.proofs.lemmas.Slice.Eq.{slice_eq-Decides}
use Rattle.std.proofs.lemmas.Bool.Decides.{Decides-eqb}
use Rattle.bitmap_core.proofs.Chunks.Quarters.{rest_decided, blocks_decided}
use Rattle.bitmap_core.proofs.bitmap.deque.equality.long_slices_equal.Goals as goal

pub returns-then-quarters_equal : goal.returns-then-quarters_equal
returns-then-quarters_equal c =
    let count = length c.args.a.now / 256 in
    let a = c.split_at.result.0.now in
    let b = c.split_at-2.result.0.now in
    let a_len : length a ≡ 64 * (4 * count) = omega (arith, c.split_at.ensures.front_len) in
    let b_len : length b ≡ 64 * (4 * count) = omega (arith, c.split_at-2.ensures.front_len) in
    let a_blocks = c.as_chunks.ensures.front ∙ ap (λ k. first_chunks 64 k a) (omega arith) in
    let b_blocks = c.as_chunks-2.ensures.front ∙ ap (λ k. first_chunks 64 k b) (omega arith) in
    let same = blocks_decided _ a b (4 * count) _ _ a_len b_len a_blocks b_blocks c.quarters_equal.ensures in
    rest_decided _ _ _ _ _ _ _ c.split_at.ensures.by_index.0 c.split_at-2.ensures.by_index.0 (same.0 c.if-quarters_equal.true)
    (slice_eq-Decides Decides-eqb _ _ _ c.eq.ensures)
