use Rattle.std.proofs.Common.{ℕ, ◌+◌, ◌∙◌, length, ap, arith}
use Rattle.std.proofs.lemmas.Bool.{false≢true}
use Rattle.bitmap_core.specs.PrunedBits.{chunk, truncated}
use Rattle.historical_bitmap.proofs.EditedChunks.ManyChunks.{inserted_and_set, no_missing}
use Rattle.historical_bitmap.proofs.bitmap.historical.ranges.set_range.Goals as goal

pub returns-in_err-insert_each-clause-edited : goal.returns-in_err-insert_each-clause-edited
returns-in_err-insert_each-clause-edited g c = λ all.
    let none = no_missing c.args.chunks.now _ _ c.in_ok-indices.indices.items c.in_ok-indices.ensures.indices (λ (q : ℕ) l h. all q (omega (arith, l, c.chunk_index-first.ensures)) (omega (arith, h, c.chunk_index-past.ensures))) in
    absurd (false≢true (c.in_err-insert_each.ensures.none (ap length c.deref.ensures.value ∙ none)))

pub returns-clause-ok : goal.returns-clause-ok
returns-clause-ok g c =
    rw (← c.chunk_index-first.ensures, ← c.chunk_index-past.ensures)
    (inserted_and_set g.row.N (chunk g.row.N (truncated g.row.N c.args.current.now c.args.len)) c.args.chunks.now c.insert_each.new.self c.fill.new.chunks c.chunk_index-first.result (c.chunk_index-past.result + 1) c.args.from c.args.to c.args.value c.in_ok-indices.indices.items c.in_ok-indices.ensures.indices
    (rw c.deref.ensures.value at c.in_ok-insert_each.ensures.ok) c.fill.ensures)
