use Rattle.std.proofs.Common.{◌≡◌, ◌*◌, ℕ, ap, sym, subst, arith}
use Rattle.historical_bitmap.specs.View.{pending_of}
use Rattle.commit_log.specs.Entries.{all_chunks}
use Rattle.commit_log.specs.Making.{AscendFrom}
use Rattle.commit_log.proofs.Making.{ascend_earlier, change_made}
use Rattle.commit_log.proofs.apply.edit_all.Goals as goal

pub write_chunks-requires : goal.write_chunks-requires
write_chunks-requires g c =
    let n = g.row.N in
    let has = c.in_ok-resize.ensures.made.has in
    let chunks = all_chunks n c.args.change.now.chunks.now in
    let p = (pending_of n c.resize.new.batch).pruned in
    let ascends = ascend_earlier n c.args.change.now.len p c.args.change.now.pruned chunks (omega (arith, has.pruned_is, c.requires.extent.rises)) c.requires.ascend in
    (omega arith, (omega arith, (omega (arith, c.len.ensures.width.fits), subst (λ (x : ℕ). AscendFrom n x p chunks) (sym has.len_is) ascends)))

pub returns-clause-made : goal.returns-clause-made
returns-clause-made g c =
    let n = g.row.N in
    let change = c.args.change.now in
    let is : c.chunk_width.result * change.pruned ≡ 8 * n * change.pruned = ap (λ (x : ℕ). x * change.pruned) c.chunk_width.ensures in
    change_made n change.pruned change.len (c.chunk_width.result * change.pruned) (all_chunks n change.chunks.now) c.args.batch.now c.resize.new.batch c.write_chunks.new.batch c.try_prune_to_bit.new.self c.len.ensures.width.positive
    c.in_ok-resize.ensures.made c.in_ok-write_chunks.ensures.made c.in_ok-try_prune_to_bit.ensures.ok is (omega (arith, is, c.requires.extent.covers)) c.requires.extent.rises
