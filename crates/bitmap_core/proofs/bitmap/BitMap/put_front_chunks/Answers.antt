use Rattle.std.proofs.Common.{arith}
use Rattle.std.proofs.lemmas.List.{length-append}
use Rattle.bitmap_bytes.proofs.Lists.Bits.{len_is}
use Rattle.bitmap_bytes.proofs.Chunks.Concatenated.{bits-front, IsChunkCount-front, IsZeroFrom-front}
use Rattle.bitmap_core.proofs.bitmap.BitMap.put_front_chunks.Goals as goal

pub overflow_add-self : goal.overflow_add-self
overflow_add-self g c = rw c.chunk_width.ensures (omega (arith, len_is _ _ _ _ c.self.view_is))

pub invariant_of-self-2 : goal.invariant_of-self-2
invariant_of-self-2 g c =
    let cached = c.self.invariant in
    rw (
      c.chunk_width.ensures,
      c.in_ok-put_front.ensures.ok,
    ) (record {
      width = cached.width;
      count = rw length-append (IsChunkCount-front _ _ _ _ cached.count);
      zero = IsZeroFrom-front _ _ _ _ cached.width.positive cached.zero;
    })

pub returns-clause-ok : goal.returns-clause-ok
returns-clause-ok g c = rw (c.chunk_width.ensures, c.in_ok-put_front.ensures.ok) (bits-front _ _ _ _ _ c.self.invariant.width.positive c.self.view_is)
