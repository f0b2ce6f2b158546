use Rattle.std.proofs.Common.{true, false, arith, sym, ◌∙◌}
use Rattle.historical_bitmap.proofs.Changes.Next.{change_here, change_later, change_none, change_past, differs_by}
use Rattle.historical_bitmap.proofs.bitmap.historical.changes.Comparison.next_changed.Goals as goal

pub returns-then-chunk-self : goal.returns-then-chunk-self
returns-then-chunk-self g c =
    rw (← c.self.view_is)
    (change_past g.row.N c.self.inside.older c.self.inside.newer c.args.first c.loop-chunk.at c.self.inside.end (rw (← c.self.view_is) at c.loop-chunk.invariant) c.in-Some.chunk (rw (← c.self.view_is) at c.in-Some.ensures) (omega (arith, c.if-chunk-self.true)))

pub returns-then-ne : goal.returns-then-ne
returns-then-ne g c =
    rw (← c.self.view_is)
    (change_here g.row.N c.self.inside.older c.self.inside.newer c.args.first c.loop-chunk.at c.self.inside.end (rw (← c.self.view_is) at c.loop-chunk.invariant) c.in-Some.chunk (rw (← c.self.view_is) at c.in-Some.ensures) (omega (arith, c.if-chunk-self.false))
    (differs_by g.row.N c.self.inside.older c.self.inside.newer c.in-Some.chunk c.retained_bytes.result c.retained_bytes-in-Some.result true c.retained_bytes.ensures c.retained_bytes-in-Some.ensures (sym c.if-ne.true ∙ c.ne.ensures)))

pub loop-chunk-preserved : goal.loop-chunk-preserved
loop-chunk-preserved g c =
    rw (← c.self.view_is)
    (change_later g.row.N c.self.inside.older c.self.inside.newer c.args.first c.loop-chunk.at c.self.inside.end (rw (← c.self.view_is) at c.loop-chunk.invariant) c.in-Some.chunk (rw (← c.self.view_is) at c.in-Some.ensures) (omega (arith, c.if-chunk-self.false))
    (differs_by g.row.N c.self.inside.older c.self.inside.newer c.in-Some.chunk c.retained_bytes.result c.retained_bytes-in-Some.result false c.retained_bytes.ensures c.retained_bytes-in-Some.ensures (sym c.if-ne.false ∙ c.ne.ensures)))

pub returns : goal.returns
returns g c =
    rw (← c.self.view_is)
    (change_none g.row.N c.self.inside.older c.self.inside.newer c.args.first c.loop-chunk.at c.self.inside.end (rw (← c.self.view_is) at c.loop-chunk.invariant) (rw (← c.self.view_is) at c.in_default.ensures))
