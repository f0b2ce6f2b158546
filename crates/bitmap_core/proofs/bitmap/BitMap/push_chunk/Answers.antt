use Rattle.std.proofs.Common.{◌∙◌, ◌*◌, ◌%◌, sym, ap, arith}
use Rattle.std.proofs.lemmas.List.{length_push}
use Rattle.std.proofs.Math.Nat.{mul-add}
use Rattle.bitmap_bytes.proofs.Chunks.Places.{IsChunkCount-chunk, full_len}
use Rattle.bitmap_bytes.proofs.Lists.Bits.{len_is}
use Rattle.bitmap_bytes.proofs.Chunks.Lists.{IsZeroFrom-count}
use Rattle.bitmap_core.proofs.Lists.Edits.{bits-push_chunk}
use Rattle.bitmap_core.proofs.bitmap.BitMap.push_chunk.Goals as goal

pub overflow_add-self : goal.overflow_add-self
overflow_add-self g c = omega (arith, len_is _ _ _ _ c.self.view_is)

pub invariant_of-self-2 : goal.invariant_of-self-2
invariant_of-self-2 g c =
    let cached = c.self.invariant in
    let a = ap (λ x. x % (8 * g.row.N)) (sym (len_is _ _ _ _ c.self.view_is)) ∙ c.requires.aligned in
    let k = IsChunkCount-chunk _ _ _ cached.width.positive cached.count a in
    let f = full_len _ _ _ cached.width.positive cached.count a in
    rw (
      c.chunk_width.ensures,
      c.in_ok-push_back.ensures.items,
    ) (record {
      width = cached.width;
      count = rw length_push k;
      zero = IsZeroFrom-count _ _ _ cached.width.positive (rw (length_push, mul-add) (omega arith));
    })

pub returns-clause-ok : goal.returns-clause-ok
returns-clause-ok g c =
    let a = ap (λ x. x % (8 * g.row.N)) (sym (len_is _ _ _ _ c.self.view_is)) ∙ c.requires.aligned in
    rw (
      c.chunk_width.ensures,
      c.in_ok-push_back.ensures.items,
    ) (bits-push_chunk _ _ _ _ _ c.self.invariant.width.positive a c.self.invariant.count c.self.view_is)
