use Rattle.std.proofs.Common.{◌∙◌, sym, arith}
use Rattle.std.proofs.lemmas.Bool.Decides.{Decides-eqb}
use Rattle.std.proofs.lemmas.List.{ext_get_or}
use Rattle.bitmap_core.proofs.Chunks.Quarters.{fold_next}
use Rattle.bitmap_core.proofs.bitmap.deque.equality.blocks_equal.Goals as goal

pub loop-i-preserved : goal.loop-i-preserved
loop-i-preserved c = fold_next _ _ _ _ c.loop-i.invariant

pub returns : goal.returns
returns c =
    let d = Decides-eqb c.loop-i.differing 0 in (
      λ q. ext_get_or 0 c.args.a.now c.args.b.now (c.told-a ∙ sym c.told-b) (λ k h. c.loop-i.invariant.equal (d.0 q) k (omega arith)),
      λ e. d.1 (c.loop-i.invariant.zero e),
    )
