use Rattle.std.proofs.Common.{true, false, arith, None, Some, sym, ◌∙◌}
use Rattle.historical_bitmap.specs.Pending.{marked_chunks, pending_bits}
use Rattle.historical_bitmap.proofs.Changes.Next.{change_here, change_later, change_none, change_past, differs_by, passes_named}
use Rattle.historical_bitmap.proofs.Changes.Pending.{unmarked_alike}
use Rattle.historical_bitmap.proofs.bitmap.historical.pending_changes.next_pending.Goals as goal

pub returns-then-chunk-end-clause-next : goal.returns-then-chunk-end-clause-next
returns-then-chunk-end-clause-next g c =
    change_past g.row.N c.args.current.now (pending_bits g.row.N c.args.current.now c.args.edits.now) c.args.first c.loop-chunk.at c.args.end c.loop-chunk.invariant.same
    c.in-Some.chunk
    (passes_named g.row.N c.args.current.now (pending_bits g.row.N c.args.current.now c.args.edits.now) (marked_chunks g.row.N c.args.current.now c.args.edits.now) (unmarked_alike g.row.N c.args.current.now c.args.edits.now c.requires.width.positive c.requires.edits_fit) c.loop-chunk.at (Some c.in-Some.chunk) c.in-Some.ensures)
    (omega (arith, c.if-chunk-end.true))

pub returns-then-ne : goal.returns-then-ne
returns-then-ne g c = record {
  next = change_here g.row.N c.args.current.now (pending_bits g.row.N c.args.current.now c.args.edits.now) c.args.first c.loop-chunk.at c.args.end c.loop-chunk.invariant.same
      c.in-Some.chunk
      (passes_named g.row.N c.args.current.now (pending_bits g.row.N c.args.current.now c.args.edits.now) (marked_chunks g.row.N c.args.current.now c.args.edits.now) (unmarked_alike g.row.N c.args.current.now c.args.edits.now c.requires.width.positive c.requires.edits_fit) c.loop-chunk.at (Some c.in-Some.chunk) c.in-Some.ensures)
      (omega (arith, c.if-chunk-end.false))
      (differs_by g.row.N c.args.current.now (pending_bits g.row.N c.args.current.now c.args.edits.now) c.in-Some.chunk c.current_bytes.result c.pending_bytes.result true c.current_bytes.ensures c.pending_bytes.ensures (sym c.if-ne.true ∙ c.ne.ensures));
  after = omega (arith, c.in-Some.ensures.0, c.loop-chunk.invariant.after);
}

pub loop-chunk-preserved : goal.loop-chunk-preserved
loop-chunk-preserved g c = record {
  same = change_later g.row.N c.args.current.now (pending_bits g.row.N c.args.current.now c.args.edits.now) c.args.first c.loop-chunk.at c.args.end c.loop-chunk.invariant.same
      c.in-Some.chunk
      (passes_named g.row.N c.args.current.now (pending_bits g.row.N c.args.current.now c.args.edits.now) (marked_chunks g.row.N c.args.current.now c.args.edits.now) (unmarked_alike g.row.N c.args.current.now c.args.edits.now c.requires.width.positive c.requires.edits_fit) c.loop-chunk.at (Some c.in-Some.chunk) c.in-Some.ensures)
      (omega (arith, c.if-chunk-end.false))
      (differs_by g.row.N c.args.current.now (pending_bits g.row.N c.args.current.now c.args.edits.now) c.in-Some.chunk c.current_bytes.result c.pending_bytes.result false c.current_bytes.ensures c.pending_bytes.ensures (sym c.if-ne.false ∙ c.ne.ensures));
  after = omega (arith, c.in-Some.ensures.0, c.loop-chunk.invariant.after);
}

pub returns-clause-next : goal.returns-clause-next
returns-clause-next g c =
    change_none g.row.N c.args.current.now (pending_bits g.row.N c.args.current.now c.args.edits.now) c.args.first c.loop-chunk.at c.args.end c.loop-chunk.invariant.same
    (passes_named g.row.N c.args.current.now (pending_bits g.row.N c.args.current.now c.args.edits.now) (marked_chunks g.row.N c.args.current.now c.args.edits.now) (unmarked_alike g.row.N c.args.current.now c.args.edits.now c.requires.width.positive c.requires.edits_fit) c.loop-chunk.at None c.in_default.ensures)
