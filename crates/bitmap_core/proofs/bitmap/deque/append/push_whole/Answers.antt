use Rattle.std.proofs.Common.{◌≡◌, ◌<◌, ◌≤◌, ◌+◌, ◌*◌, ◌/◌, ◌∙◌, length, inl, inr, arith}
use Rattle.std.proofs.lemmas.List.{length_push}
use Rattle.std.proofs.lemmas.Bool.{cases_eq}
use Rattle.bitmap_bytes.proofs.Chunks.Lists.{chunks_bit-push_in}
use Rattle.bitmap_bytes.proofs.Chunks.Places.{within_more}
use Rattle.bitmap_bytes.proofs.Bytes.Shifted.{pushed_here}
use Rattle.bitmap_core.proofs.bitmap.deque.append.push_whole.Goals as goal

pub loop-chunks-preserved : goal.loop-chunks-preserved
loop-chunks-preserved g c =
    let l : c.len-in-loop-chunks.result ≡ length c.loop-chunks.chunks.items = omega (arith, c.loop-chunks.chunks.ok.0) in
    let w : c.args.len ≤ 8 * g.row.N * length c.loop-chunks.chunks.items = within_more g.row.N _ _ _ c.requires.full c.loop-chunks.invariant.more in
    rw c.push_back_reserved.ensures.items (record {
      capacity = rw c.push_back_reserved.ensures.capacity c.loop-chunks.invariant.capacity;
      within = rw length_push (omega arith);
      more = rw length_push (omega (arith, c.loop-chunks.invariant.more));
      kept = λ i h. chunks_bit-push_in _ c.loop-chunks.chunks.items _ i (omega (arith, c.loop-chunks.invariant.more)) ∙ c.loop-chunks.invariant.kept i h;
      done = λ i h s. elim (cases_eq (i / (8 * g.row.N)) (length c.loop-chunks.chunks.items)) [
        | inl e ↦ pushed_here g.row.N c.loop-chunks.chunks.items c.args.len _ _ w (rw (c.chunk_width.ensures, l) at c.chunk_from.ensures) i e
        | inr e ↦
            let u : i / (8 * g.row.N) < length c.loop-chunks.chunks.items + 1 = rw length_push at s in
            chunks_bit-push_in g.row.N c.loop-chunks.chunks.items _ i (omega arith) ∙ c.loop-chunks.invariant.done i h (omega arith)
      ];
    })
