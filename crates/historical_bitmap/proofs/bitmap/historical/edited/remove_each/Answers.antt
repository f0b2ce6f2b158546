use Rattle.std.proofs.Common.{◌≡◌, None, get_or, take, subst, sym, arith}
use Rattle.std.proofs.lemmas.List.{take_more}
use Rattle.historical_bitmap.specs.Pending.{PutsEach}
use Rattle.historical_bitmap.proofs.EditedChunks.ManyChunks.{puts_more}
use Rattle.historical_bitmap.proofs.bitmap.historical.edited.remove_each.Goals as goal

pub loop-at-preserved : goal.loop-at-preserved
loop-at-preserved g c =
    subst (λ xs. PutsEach c.args.stored.now.entries c.remove.new.self.entries xs (λ q. None)) (sym (take_more c.args.indices.now c.loop-at.at 0 (omega (arith, c.loop-at-test.true, c.requires.within))))
    (puts_more c.args.stored.now.entries c.loop-at.stored.entries c.remove.new.self.entries (take c.loop-at.at c.args.indices.now) (get_or c.args.indices.now c.loop-at.at 0) (λ q. None) c.loop-at.invariant c.remove.ensures.removed)

pub returns-clause-removed : goal.returns-clause-removed
returns-clause-removed g c =
    let all : c.loop-at.at ≡ c.args.count = omega (arith, c.loop-at-test.false, c.loop-at.auto.at-end) in
    rw all at c.loop-at.invariant
