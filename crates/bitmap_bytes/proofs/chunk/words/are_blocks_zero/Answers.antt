use Rattle.std.proofs.Common.{◌≡◌, ◌*◌, ◌∙◌, length, get_or, [], sym, ap, eqb, arith}
use Rattle.std.proofs.lemmas.List.{get_or_default}
use Rattle.bitmap_bytes.specs.Bits.{chunks_bit}
use Rattle.bitmap_bytes.proofs.Counting.Ones.{ones_from}
use Rattle.bitmap_bytes.proofs.Counting.Places.{none_bits}
use Rattle.bitmap_bytes.proofs.Counting.Blocks.{zero_block, other_block, zeros_where_same, other_where_not}
use Rattle.bitmap_bytes.proofs.chunk.words.are_blocks_zero.Goals as goal

pub returns-then-ne : goal.returns-then-ne
returns-then-ne g c =
    let item : c.block-item.result ≡ get_or c.args.blocks.now c.loop-block.block-index [] = c.block-item.is ∙ get_or_default _ _ _ [] c.loop-block-test.true in
    sym (other_block g.row.M c.args.blocks.now c.loop-block.block-index c.requires c.loop-block-test.true (c.all_known.ensures _ c.loop-block-test.true) (λ z. other_where_not g.row.M _ _ c.ne.ensures c.if-ne.true (item ∙ z)))

pub loop-block-preserved : goal.loop-block-preserved
loop-block-preserved g c =
    let item : c.block-item.result ≡ get_or c.args.blocks.now c.loop-block.block-index [] = c.block-item.is ∙ get_or_default _ _ _ [] c.loop-block-test.true in
    zero_block g.row.M c.args.blocks.now c.loop-block.block-index c.requires (sym item ∙ zeros_where_same g.row.M _ _ c.ne.ensures c.if-ne.false) c.loop-block.invariant

pub returns : goal.returns
returns g c =
    let e : c.loop-block.block-index ≡ length c.args.blocks.now = omega arith in
    sym (none_bits g.row.M c.args.blocks.now (8 * g.row.M * length c.args.blocks.now) ∙ ap (λ x. eqb x 0) (sym (ap (λ k. ones_from (chunks_bit g.row.M c.args.blocks.now) 0 (8 * g.row.M * k)) e) ∙ c.loop-block.invariant))
