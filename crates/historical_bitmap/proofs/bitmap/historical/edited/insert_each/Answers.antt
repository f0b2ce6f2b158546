use Rattle.std.proofs.Common.{◌≡◌, Some, None, get_or, take, ap, subst, sym, arith}
use Rattle.std.proofs.lemmas.List.{take_more}
use Rattle.bitmap_core.specs.PrunedBits.{chunk, truncated}
use Rattle.chunk_map.specs.Entries.{ChunkEntries, Puts}
use Rattle.historical_bitmap.specs.Pending.{PutsEach}
use Rattle.historical_bitmap.proofs.Lists.Maps.{on_err, on_ok}
use Rattle.historical_bitmap.proofs.EditedChunks.ManyChunks.{each_taken_again, member_at, member_take, puts_more}
use Rattle.historical_bitmap.proofs.bitmap.historical.edited.insert_each.Goals as goal

pub first_chunk-requires : goal.first_chunk-requires
first_chunk-requires g c =
    let index = get_or c.args.indices.now c.loop-at.at 0 in
    let listed = member_at c.args.indices.now c.loop-at.at c.loop-at-test.true in
    (omega arith, (omega (arith, c.len.ensures.width.fits), (c.requires.from index listed, c.requires.fits index listed)))

pub loop-at-preserved : goal.loop-at-preserved
loop-at-preserved g c =
    let index = get_or c.args.indices.now c.loop-at.at 0 in
    let put = on_ok c.insert.result _ (sym c.if-is_err.ensures.value) c.insert.ensures.ok in
    let first : Puts c.loop-at.stored.entries c.insert.new.self.entries index (Some (chunk g.row.N (truncated g.row.N c.args.current.now c.args.len) index)) =
    subst (λ bytes. Puts c.loop-at.stored.entries c.insert.new.self.entries index (Some bytes)) c.first_chunk.ensures.value put in
    subst (λ xs. PutsEach c.args.stored.now.entries c.insert.new.self.entries xs (λ q. Some (chunk g.row.N (truncated g.row.N c.args.current.now c.args.len) q))) (sym (take_more c.args.indices.now c.loop-at.at 0 c.loop-at-test.true))
    (puts_more c.args.stored.now.entries c.loop-at.stored.entries c.insert.new.self.entries (take c.loop-at.at c.args.indices.now) index (λ q. Some (chunk g.row.N (truncated g.row.N c.args.current.now c.args.len) q)) c.loop-at.invariant first)

pub returns-then-is_err-clause-err : goal.returns-then-is_err-clause-err
returns-then-is_err-clause-err g c =
    let done = take c.loop-at.at c.args.indices.now in
    let same : c.insert.new.self.entries ≡ c.loop-at.stored.entries = ap (λ (m : ChunkEntries). m.entries) (on_err c.insert.result _ (sym c.if-is_err.ensures.value) c.insert.ensures.err) in
    let taken = subst (λ es. PutsEach es c.remove_each.new.stored.entries done (λ q. None)) same c.remove_each.ensures.removed in
    each_taken_again c.args.stored.now.entries c.loop-at.stored.entries c.remove_each.new.stored.entries done (λ q. Some (chunk g.row.N (truncated g.row.N c.args.current.now c.args.len) q)) c.order.ensures.sorted c.remove_each.ensures.sorted
    (λ q h. c.requires.absent q (member_take c.args.indices.now c.loop-at.at q h)) c.loop-at.invariant taken
