use Rattle.std.proofs.Common.{◌≡◌, ◌*◌, ◌≤◌, ℕ, slice_index, Some, ap, arith, subst, sym, ◌∙◌}
use Rattle.std.specs.Map.{lookup}
use Rattle.std.specs.Prelude.{MatchOption, nat_eq}
use Rattle.bitmap_core.specs.PrunedBits.{bit_len}
use Rattle.historical_bitmap.specs.Undo.{IsOldChunk}
use Rattle.historical_bitmap.proofs.Pending.AppliedInAnyOrder.{all_written, none_written, one_written}
use Rattle.historical_bitmap.proofs.bitmap.historical.apply.write_chunks.Goals as goal

pub loop-place-init : goal.loop-place-init
loop-place-init g c = none_written g.row.N c.args.current.now c.args.edited.now.entries c.args.edited.now.indices

pub set_chunk_by_index-requires : goal.set_chunk_by_index-requires
set_chunk_by_index-requires g c =
    let known = c.loop-place.invariant in
    let index = slice_index c.args.edited.now.indices c.loop-place.place in
    let found : lookup (nat_eq (slice_index c.args.edited.now.indices c.loop-place.place)) c.args.edited.now.entries ≡ Some c.chunk_at.result.now = c.chunk_at.ensures in
    let low = subst (λ o. MatchOption o (Unit {0}) (λ bytes. c.args.current.now.pruned ≤ index)) found (c.requires.retained index) in
    let old = subst (λ o. MatchOption o (Unit {0}) (IsOldChunk g.row.N (bit_len g.row.N c.args.current.now) index)) found (c.requires.fits index) in
    (omega arith, (omega (arith, c.requires.width.fits), ((omega (arith, low, known.pruned, c.index_at.ensures), omega (arith, old.high, known.len, ap (λ (i : ℕ). 8 * g.row.N * i) c.index_at.ensures)), λ k past same. old.clear k (same ∙ c.index_at.ensures) (omega (arith, past, known.len)))))

pub loop-place-preserved : goal.loop-place-preserved
loop-place-preserved g c =
    one_written g.row.N c.args.current.now c.args.edited.now.entries c.args.edited.now.indices c.loop-place.place c.loop-place.current c.set_chunk_by_index.new.self c.chunk_at.result.now
    c.chunk_at.ensures (rw (sym c.index_at.ensures) c.set_chunk_by_index.ensures) c.loop-place.invariant

pub returns : goal.returns
returns g c = record {
  value = all_written g.row.N c.args.current.now c.args.edited.now.entries c.args.edited.now.indices c.loop-place.place c.loop-place.current
      (omega (arith, c.loop-place-test.false, c.loop-place.auto.place-end, c.len-place-end.ensures.indices)) c.order.ensures.sorted c.order.ensures.places c.loop-place.invariant;
  sorted = c.order.ensures.sorted;
}
