use Rattle.std.proofs.Common.{◌*◌, ◌/◌, inl, inr, arith}
use Rattle.std.proofs.lemmas.Bool.{cases_lt}
use Rattle.bitmap_core.proofs.bitmap.deque.ranges.fill_each.Goals as goal

pub returns-clause-outside : goal.returns-clause-outside
returns-clause-outside g c i h =
    let loop = c.loop-i.invariant in
    elim (cases_lt (i / (8 * g.row.N)) c.args.from) [
      | inl s ↦ loop.below i s
      | inr s ↦ loop.rest i (elim h [ inl u ↦ absurd (omega arith) | inr u ↦ omega arith ])
    ]
