use Rattle.std.proofs.Common.{◌≡◌, [], ◌∙◌, get_or, ap, inl, inr, arith}
use Rattle.std.proofs.lemmas.List.{get_or_default}
use Rattle.std.proofs.lemmas.Bool.{cases_lt}
use Rattle.bitmap_bytes.specs.Chunk.{chunk_bit}
use Rattle.bitmap_bytes.proofs.Counting.Blocks.{zeros_where_same, other_where_not}
use Rattle.bitmap_bytes.proofs.Counting.Pairs.{decided_no, none_gives_zero, zero_gives_none}
use Rattle.bitmap_bytes.proofs.chunk.pairs.blocks_give_none.Goals as goal

pub returns-then-ne : goal.returns-then-ne
returns-then-ne g c =
    let a : c.index-a-i.result ≡ get_or c.args.a.now c.loop-i.i [] = c.index-a-i.is ∙ get_or_default _ _ _ [] c.loop-i-test.true in
    let b : c.index-b-i.result ≡ get_or c.args.b.now c.loop-i.i [] = c.index-b-i.is ∙ get_or_default c.args.b.now c.loop-i.i c.index-b-i.result [] (omega (arith, c.requires.same, c.loop-i-test.true)) in
    decided_no _ (λ h. other_where_not g.row.M _ _ c.ne.ensures c.if-ne.true
    (none_gives_zero g.row.M g.B.Bitwise.gives c.args.a.now c.args.b.now c.loop-i.i c.combine.new.chunk c.requires.positive (rw (a, b) at c.combine.ensures) c.known.ensures h))

pub loop-i-preserved : goal.loop-i-preserved
loop-i-preserved g c k h t =
    let a : c.index-a-i.result ≡ get_or c.args.a.now c.loop-i.i [] = c.index-a-i.is ∙ get_or_default _ _ _ [] c.loop-i-test.true in
    let b : c.index-b-i.result ≡ get_or c.args.b.now c.loop-i.i [] = c.index-b-i.is ∙ get_or_default c.args.b.now c.loop-i.i c.index-b-i.result [] (omega (arith, c.requires.same, c.loop-i-test.true)) in
    elim (cases_lt k c.loop-i.i) [
      | inl s ↦ c.loop-i.invariant k s t
      | inr s ↦
          let e : k ≡ c.loop-i.i = omega arith in
          ap (λ j. g.B.Bitwise.gives (chunk_bit g.row.M (get_or c.args.a.now j []) t) (chunk_bit g.row.M (get_or c.args.b.now j []) t)) e
          ∙ zero_gives_none g.row.M g.B.Bitwise.gives c.args.a.now c.args.b.now c.loop-i.i c.combine.new.chunk c.requires.positive (rw (a, b) at c.combine.ensures) (zeros_where_same g.row.M _ _ c.ne.ensures c.if-ne.false) t
    ]
