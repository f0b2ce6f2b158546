use Rattle.std.proofs.Common.{ap, sym, ◌∙◌}
use Rattle.std.specs.Prelude.{is_some}
use Rattle.bitmap_core.specs.PrunedBits.{chunk, truncated}
use Rattle.historical_bitmap.proofs.EditedChunks.Appended.{copied_some, none_of, ok_map}
use Rattle.historical_bitmap.proofs.EditedChunks.OpenedUpTo.{opens_all, opens_rest}
use Rattle.historical_bitmap.proofs.bitmap.historical.opened.open_to.Goals as goal

pub returns-then-is_some-clause-ok : goal.returns-then-is_some-clause-ok
returns-then-is_some-clause-ok g c =
    let found = ap is_some (sym c.get.ensures.value) ∙ (copied_some c.get.result ∙ (sym c.is_some.ensures ∙ c.if-is_some.true)) in
    ok_map c.open_each.result (opens_rest (chunk g.row.N (truncated g.row.N c.args.current.now c.args.len)) c.args.chunks.now c.open_each.new.chunks c.args.first c.args.past c.requires.last found) c.open_each.ensures.ok

pub returns-clause-ok : goal.returns-clause-ok
returns-clause-ok g c =
    let found = ap is_some (sym c.get.ensures.value) ∙ (copied_some c.get.result ∙ (sym c.is_some.ensures ∙ c.if-is_some.false)) in
    ok_map c.open_each-2.result (opens_all (chunk g.row.N (truncated g.row.N c.args.current.now c.args.len)) c.args.chunks.now c.open_each-2.new.chunks c.args.first c.args.past c.requires.last (none_of _ found)) c.open_each-2.ensures.ok
