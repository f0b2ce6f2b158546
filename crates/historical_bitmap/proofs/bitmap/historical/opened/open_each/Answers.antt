use Rattle.std.proofs.Common.{◌≡◌, Some, subst, sym, ◌∙◌, arith}
use mathlib.Core.Logic.{inr}
use Rattle.bitmap_core.specs.PrunedBits.{chunk, truncated}
use Rattle.chunk_map.specs.Entries.{Puts}
use Rattle.historical_bitmap.specs.Pending.{DropsFrom}
use Rattle.historical_bitmap.proofs.EditedChunks.OpenedUpTo.{beside_opened, one_opened, opened_and_dropped}
use Rattle.historical_bitmap.proofs.Lists.Maps.{on_err, on_ok}
use Rattle.historical_bitmap.proofs.bitmap.historical.opened.open_each.Goals as goal

pub open-requires : goal.open-requires
open-requires g c =
    let at = c.loop-index.index in
    (omega (arith, c.requires.width.fits), (omega arith, beside_opened c.args.chunks.now c.loop-index.chunks c.args.first at at (λ q. Some (chunk g.row.N (truncated g.row.N c.args.current.now c.args.len) q)) c.loop-index.invariant (inr (omega arith)) ∙ c.requires.last at c.loop-index.auto.index))

pub returns-then-is_err-clause-err : goal.returns-then-is_err-clause-err
returns-then-is_err-clause-err g c =
    let same : c.open.new.self ≡ c.loop-index.chunks = on_err c.open.result _ (sym c.if-is_err.ensures.value) c.open.ensures.err in
    let dropped = subst (λ es. DropsFrom es c.drop_from.new.self c.args.first) same c.drop_from.ensures.dropped in
    opened_and_dropped c.args.chunks.now c.loop-index.chunks c.drop_from.new.self c.args.first c.loop-index.index (λ q. Some (chunk g.row.N (truncated g.row.N c.args.current.now c.args.len) q)) c.requires.sorted c.drop_from.ensures.sorted c.requires.last c.loop-index.invariant dropped

pub loop-index-preserved : goal.loop-index-preserved
loop-index-preserved g c =
    let put : Puts c.loop-index.chunks c.open.new.self c.loop-index.index (Some (chunk g.row.N (truncated g.row.N c.args.current.now c.args.len) c.loop-index.index)) = subst (λ bytes. Puts c.loop-index.chunks c.open.new.self c.loop-index.index (Some bytes)) c.first_chunk.ensures.value (on_ok c.open.result _ (sym c.if-is_err.ensures.value) c.open.ensures.ok) in
    one_opened c.args.chunks.now c.loop-index.chunks c.open.new.self c.args.first c.loop-index.index (λ q. Some (chunk g.row.N (truncated g.row.N c.args.current.now c.args.len) q)) c.loop-index.auto.index c.loop-index.invariant put
