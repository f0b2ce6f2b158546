use Rattle.std.proofs.Common.{subst, ◌≡◌, ℕ, eqb, arith}
use Rattle.std.specs.Int.{bit_at}
use Rattle.bitmap_bytes.specs.Chunk.{IsNth}
use Rattle.bitmap_bytes.proofs.Counting.Parts.{taken_none, taken_some, taken_more, taken_nth}
use Rattle.bitmap_bytes.proofs.chunk.load.nth_one.Goals as goal

pub loop-init : goal.loop-init
loop-init c = taken_none c.args.word

pub take_lowest-requires : goal.take_lowest-requires
take_lowest-requires c = taken_some c.args.word c.loop.rest c.loop.counter (omega arith) c.loop.invariant (omega (arith, c.loop-test.true, c.requires))

pub loop-preserved : goal.loop-preserved
loop-preserved c =
    let e = c.take_lowest.ensures in
    taken_more c.args.word c.loop.rest c.loop.counter c.take_lowest.result c.loop.invariant e.within e.set e.lowest c.take_lowest.new.word e.cleared e.others

pub take_lowest-requires-2 : goal.take_lowest-requires-2
take_lowest-requires-2 c = taken_some c.args.word c.loop.rest c.loop.counter (omega arith) c.loop.invariant (omega (arith, c.loop.auto.counter-end, c.requires))

pub returns : goal.returns
returns c =
    let e = c.take_lowest-2.ensures in
    let k : c.loop.counter ≡ c.args.k = omega (arith, c.loop-test.false, c.loop.auto.counter-end) in
    subst (λ (x : ℕ). IsNth (λ t. eqb (bit_at c.args.word t) 1) 0 64 x c.take_lowest-2.result) k
    (taken_nth c.args.word c.loop.rest c.loop.counter c.take_lowest-2.result c.loop.invariant e.within e.set e.lowest)
