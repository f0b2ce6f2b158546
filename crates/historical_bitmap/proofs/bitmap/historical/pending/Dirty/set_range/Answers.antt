use Rattle.std.proofs.Common.{refl, sym, arith}
use Rattle.std.proofs.lemmas.Bool.{false≢true}
use Rattle.std.specs.Prelude.{IsSome, nat_eq}
use Rattle.std.specs.Map.{lookup}
use Rattle.historical_bitmap.proofs.Pending.Ends.{index_from}
use Rattle.historical_bitmap.proofs.Pending.Ranges.{each_chunk, empty_range, range_of_chunks}
use Rattle.historical_bitmap.proofs.bitmap.historical.pending.Dirty.set_range.Goals as goal

pub returns-then-from-to-clause-ok : goal.returns-then-from-to-clause-ok
returns-then-from-to-clause-ok g c = empty_range g.row.N c.args.current.now c.args.self.now c.args.from c.args.to c.args.value c.if-from-to.true

pub set_range-requires : goal.set_range-requires
set_range-requires g c = (omega (arith, c.self.invariant.width.fits), (omega arith, (c.if-from-to.false, index_from g.row.N c.args.current.now.pruned c.args.from c.self.invariant.width.positive c.requires.low)))

pub returns-in_err-set_range-clause-edited : goal.returns-in_err-set_range-clause-edited
returns-in_err-set_range-clause-edited g c =
    rw (sym c.self.view_is) (λ all. absurd (false≢true (c.in_err-set_range.ensures.edited (each_chunk g.row.N c.args.from c.args.to (λ q. IsSome (lookup (nat_eq q) c.settle.new.chunks)) c.self.invariant.width.positive c.if-from-to.false (λ k l h. rw c.settle.ensures.value (all k l h))))))

pub returns-clause-ok : goal.returns-clause-ok
returns-clause-ok g c =
    rw (sym c.self.view_is, ← c.settle.ensures.value, c.settle.ensures.chunk) (range_of_chunks g.row.N c.args.current.now _ _ c.args.from c.args.to c.args.value c.self.invariant.width.positive c.if-from-to.false refl refl refl c.in_ok-set_range.ensures.ok)
