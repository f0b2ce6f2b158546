use Rattle.std.proofs.Common.{◌≤◌, arith}
use Rattle.historical_bitmap.proofs.Changes.Indexed.{passes_absent, passes_complete, passes_kept}
use Rattle.historical_bitmap.proofs.bitmap.historical.changes.Comparison.next_candidate.Goals as goal

pub returns-in-Some-kept : goal.returns-in-Some-kept
returns-in-Some-kept g c =
    rw (← c.self.view_is)
    (passes_kept g.row.N c.self.inside.from c.self.inside.to c.self.inside.commits.now c.self.inside.older c.self.inside.newer c.self.inside.end c.in-Some.rows.now c.self.invariant.0
    (rw c.in-Some.is at c.self.invariant.1) c.args.first c.complete_chunks-complete.result c.complete_chunks-complete.ensures c.in-Some-kept.chunk c.in-Some-kept.ensures)

pub returns-then-next-chunk_count : goal.returns-then-next-chunk_count
returns-then-next-chunk_count g c =
    rw (← c.self.view_is)
    (passes_complete g.row.N c.self.inside.from c.self.inside.to c.self.inside.commits.now c.self.inside.older c.self.inside.newer c.self.inside.end c.in-Some.rows.now c.self.invariant.0
    (rw c.in-Some.is at c.self.invariant.1) c.args.first c.complete_chunks-complete.result c.complete_chunks-complete.ensures c.in_default-kept.ensures c.max-next.result c.max-next.ensures)

pub returns : goal.returns
returns g c =
    let past : c.chunk_count.result ≤ c.max-next.result = omega (arith, c.if-next-chunk_count.false) in
    rw (← c.self.view_is)
    (passes_absent g.row.N c.self.inside.from c.self.inside.to c.self.inside.commits.now c.self.inside.older c.self.inside.newer c.self.inside.end c.in-Some.rows.now c.self.invariant.0
    (rw c.in-Some.is at c.self.invariant.1) c.args.first c.complete_chunks-complete.result c.complete_chunks-complete.ensures c.in_default-kept.ensures c.max-next.result c.max-next.ensures
    (rw (c.chunk_count.ensures, c.len.ensures.value) at past) c.max.result (rw c.pruned_chunks.ensures.value at c.max.ensures))
