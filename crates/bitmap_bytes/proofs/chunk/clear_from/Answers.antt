use Rattle.std.proofs.Common.{arith}
use Rattle.bitmap_bytes.proofs.Chunks.Bits.{cleared}
use Rattle.bitmap_bytes.proofs.chunk.clear_from.Goals as goal

pub returns-clause-below : goal.returns-clause-below
returns-clause-below g c = λ i.
    let positive = c.requires.width.positive in
    let loop = c.loop-j.invariant in
    (cleared _ _ _ _ positive (λ k h s. loop.done k h (omega arith)) loop.here loop.kept i).0

pub returns-clause-above : goal.returns-clause-above
returns-clause-above g c = λ i.
    let positive = c.requires.width.positive in
    let loop = c.loop-j.invariant in
    (cleared _ _ _ _ positive (λ k h s. loop.done k h (omega arith)) loop.here loop.kept i).1
