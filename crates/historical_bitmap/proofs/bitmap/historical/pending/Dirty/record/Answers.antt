use Rattle.std.proofs.Common.{ℕ, ◌*◌, ◌^◌, ◌<◌, refl, ap, ◌∙◌, arith}
use mathlib.Core.Logic.{inl, inr}
use Rattle.std.proofs.lemmas.Bool.{cases_lt}
use Rattle.historical_bitmap.specs.Pending.{IsRecordOf}
use Rattle.historical_bitmap.proofs.Pending.Record.{bounds_of, cut_below, end_below, passes_record, pruned_to_cut, record_bound, record_can_undo, record_leads_back}
use Rattle.historical_bitmap.proofs.bitmap.historical.pending.Dirty.record.Goals as goal

pub most_marked-requires : goal.most_marked-requires
most_marked-requires g c =
    let bounds = bounds_of g.row.N c.args.current.now c.args.self.now c.len-total.result c.chunk_count.result c.first_cut-cut.result c.max-end.result c.len-total.ensures.value c.first_cut-cut.ensures c.chunk_count.ensures c.max-end.ensures in
    (omega (arith, c.len-total.ensures.width.fits), pruned_to_cut g.row.N c.args.current.now c.args.self.now c.len-total.ensures.width.positive c.requires.edits_fit c.first_cut-cut.result c.max-end.result bounds)

pub record_range-requires : goal.record_range-requires
record_range-requires g c =
    let bounds = bounds_of g.row.N c.args.current.now c.args.self.now c.len-total.result c.chunk_count.result c.first_cut-cut.result c.max-end.result c.len-total.ensures.value c.first_cut-cut.ensures c.chunk_count.ensures c.max-end.ensures in
    let first = c.pruned_chunks-first.ensures in
    let pruned = ap (λ l. l.pruned) c.self.view_is in
    let rises = pruned_to_cut g.row.N c.args.current.now c.args.self.now c.len-total.ensures.width.positive c.requires.edits_fit c.first_cut-cut.result c.max-end.result bounds in
    let small = cut_below g.row.N c.args.current.now c.args.self.now c.len-total.ensures.width.positive c.requires.edits_fit c.first_cut-cut.result c.max-end.result bounds in
    (omega arith, (omega (arith, c.len-total.ensures.width.fits), (omega arith, (omega (arith, first, pruned, c.requires.edits_fit.rises), (omega (arith, first), (c.requires.edits_fit.count, λ i h. omega (arith, small i (omega (arith, h, pruned, rises)), c.len.ensures.bound)))))))

pub record_edited-requires : goal.record_edited-requires
record_edited-requires g c =
    let bounds = bounds_of g.row.N c.args.current.now c.args.self.now c.len-total.result c.chunk_count.result c.first_cut-cut.result c.max-end.result c.len-total.ensures.value c.first_cut-cut.ensures c.chunk_count.ensures c.max-end.ensures in
    let pruned = ap (λ l. l.pruned) c.self.view_is in
    let rises = pruned_to_cut g.row.N c.args.current.now c.args.self.now c.len-total.ensures.width.positive c.requires.edits_fit c.first_cut-cut.result c.max-end.result bounds in
    let small = cut_below g.row.N c.args.current.now c.args.self.now c.len-total.ensures.width.positive c.requires.edits_fit c.first_cut-cut.result c.max-end.result bounds in
    (omega arith, (omega (arith, c.len-total.ensures.width.fits), (omega arith, (omega (arith, pruned, rises), (omega (arith, pruned, c.requires.edits_fit.rises), (c.requires.edits_fit.count, λ i h. omega (arith, small i h, c.len.ensures.bound)))))))

pub record_range-requires-2 : goal.record_range-requires-2
record_range-requires-2 g c =
    let bounds = bounds_of g.row.N c.args.current.now c.args.self.now c.len-total.result c.chunk_count.result c.first_cut-cut.result c.max-end.result c.len-total.ensures.value c.first_cut-cut.ensures c.chunk_count.ensures c.max-end.ensures in
    let rises = pruned_to_cut g.row.N c.args.current.now c.args.self.now c.len-total.ensures.width.positive c.requires.edits_fit c.first_cut-cut.result c.max-end.result bounds in
    let small : (i : ℕ) → i < c.max-end.result → 8 * g.row.N * i < 2 ^ 64 = λ i h. elim (cases_lt i c.first_cut-cut.result) [
      | inl s ↦ omega (arith, cut_below g.row.N c.args.current.now c.args.self.now c.len-total.ensures.width.positive c.requires.edits_fit c.first_cut-cut.result c.max-end.result bounds i s, c.len.ensures.bound)
      | inr s ↦ omega (arith, end_below g.row.N c.args.current.now c.args.self.now c.len-total.ensures.width.positive c.requires.edits_fit c.first_cut-cut.result c.max-end.result bounds i s h, c.len-total.ensures.value, c.len-total.ensures.bound)
    ] in
    (omega arith, (omega (arith, c.len-total.ensures.width.fits), (omega arith, (omega (arith, c.max-end.ensures), (omega (arith, rises, c.requires.edits_fit.rises), (c.requires.edits_fit.count, small))))))

pub returns : goal.returns
returns g c =
    let bounds = bounds_of g.row.N c.args.current.now c.args.self.now c.len-total.result c.chunk_count.result c.first_cut-cut.result c.max-end.result c.len-total.ensures.value c.first_cut-cut.ensures c.chunk_count.ensures c.max-end.ensures in
    let pos = c.len-total.ensures.width.positive in
    let fits = c.requires.edits_fit in
    let pruned = ap (λ l. l.pruned) c.self.view_is in
    let one = rw (c.pruned_chunks-first.ensures, pruned) at c.in_ok-record_range.ensures in
    let two = rw pruned at c.in_ok-record_edited.ensures in
    let begun = c.in_ok-record.ensures ∙ rw (c.len-total.ensures.value, c.pruned_chunks-first.ensures) refl in
    let whole : IsRecordOf g.row.N c.args.current.now c.args.self.now c.record_range-2.new.record =
    passes_record g.row.N c.args.current.now c.args.self.now c.len-total.ensures.width.positive c.requires.edits_fit c.first_cut-cut.result c.max-end.result bounds c.in_ok-record.record c.record_range.new.record c.record_edited.new.record c.record_range-2.new.record begun one two c.in_ok-record_range-2.ensures in
    record {
      reverses = whole;
      leads_back = record_leads_back g.row.N c.args.current.now c.args.self.now c.record_range-2.new.record pos fits whole;
      can_undo = record_can_undo g.row.N c.args.current.now c.args.self.now c.record_range-2.new.record pos fits whole;
      bound = record_bound g.row.N c.args.current.now c.args.self.now c.record_range-2.new.record whole;
    }
