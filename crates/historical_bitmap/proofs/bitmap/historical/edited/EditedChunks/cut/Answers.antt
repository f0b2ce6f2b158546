use Rattle.std.proofs.Common.{ap, sym, ◌∙◌}
use Rattle.std.specs.Prelude.{is_some}
use Rattle.historical_bitmap.proofs.EditedChunks.Appended.{copied_some, none_of}
use Rattle.historical_bitmap.proofs.EditedChunks.CutChunks.{cut_here, cut_none, not_cut}
use Rattle.historical_bitmap.proofs.bitmap.historical.edited.EditedChunks.cut.Goals as goal

pub returns-then-is_some-clause-here : goal.returns-then-is_some-clause-here
returns-then-is_some-clause-here g c =
    let found = ap is_some (sym c.get.ensures.value) ∙ (copied_some c.get.result ∙ (sym c.is_some.ensures ∙ c.if-is_some.true)) in
    cut_here g.row.N c.args.from c.args.index c.args.self.now c.set_in.new.self found (rw c.chunk_width.ensures at c.set_in.ensures)

pub returns-then-is_some-clause-others : goal.returns-then-is_some-clause-others
returns-then-is_some-clause-others g c = λ q ne. not_cut g.row.N c.args.from c.args.index q c.args.self.now c.set_in.new.self (rw c.chunk_width.ensures at c.set_in.ensures) ne

pub returns-else-is_some-clause-here : goal.returns-else-is_some-clause-here
returns-else-is_some-clause-here g c =
    let found = ap is_some (sym c.get.ensures.value) ∙ (copied_some c.get.result ∙ (sym c.is_some.ensures ∙ c.if-is_some.false)) in
    cut_none g.row.N c.args.from c.args.index c.args.self.now (none_of _ found)
