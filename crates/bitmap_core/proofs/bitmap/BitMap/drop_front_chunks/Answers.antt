use Rattle.std.proofs.Common.{◌≤◌, length, arith}
use Rattle.std.proofs.lemmas.List.{length-drop}
use Rattle.bitmap_bytes.proofs.Lists.Bits.{len_is}
use Rattle.bitmap_bytes.proofs.Chunks.Concatenated.{bits-drop, IsChunkCount-drop, IsZeroFrom-drop}
use Rattle.bitmap_bytes.proofs.Chunks.Places.{fewer_chunks}
use Rattle.bitmap_core.proofs.bitmap.BitMap.drop_front_chunks.Goals as goal

pub drop_front-requires : goal.drop_front-requires
drop_front-requires g c =
    let l = len_is _ _ _ _ c.self.view_is in
    (omega (arith, c.self.invariant.width.fits), fewer_chunks _ _ _ _ (omega (arith, c.self.invariant.width.positive)) c.self.invariant.count.0)

pub overflow_mul-self : goal.overflow_mul-self
overflow_mul-self g c = rw c.chunk_width.ensures (omega (arith, len_is _ _ _ _ c.self.view_is))

pub overflow_sub-self : goal.overflow_sub-self
overflow_sub-self g c = rw c.chunk_width.ensures (omega (arith, len_is _ _ _ _ c.self.view_is))

pub invariant_of-self : goal.invariant_of-self
invariant_of-self g c =
    let cached = c.self.invariant in
    let l = len_is _ _ _ _ c.self.view_is in
    let k : c.args.count ≤ length c.self.inside.chunks.items = fewer_chunks _ _ _ _ (omega (arith, cached.width.positive)) cached.count.0 in
    rw (c.chunk_width.ensures, c.drop_front.ensures) (record {
      width = cached.width;
      count = rw length-drop (IsChunkCount-drop _ _ _ _ (omega arith) k cached.count);
      zero = IsZeroFrom-drop _ _ _ _ cached.width.positive (omega arith) cached.zero;
    })

pub returns : goal.returns
returns g c =
    let cached = c.self.invariant in
    let width = c.chunk_width.ensures in
    rw (width, c.drop_front.ensures) (bits-drop _ _ _ _ _ cached.width.positive (omega (arith, len_is _ _ _ _ c.self.view_is)) c.self.view_is)
