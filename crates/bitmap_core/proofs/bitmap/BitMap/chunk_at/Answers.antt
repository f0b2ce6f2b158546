use Rattle.std.proofs.Common.{arith}
use Rattle.bitmap_bytes.proofs.Lists.Bits.{len_is}
use Rattle.bitmap_core.proofs.Chunks.Whole.{chunk_within, stored_chunk}
use Rattle.bitmap_core.proofs.bitmap.BitMap.chunk_at.Goals as goal

pub chunk_at-requires : goal.chunk_at-requires
chunk_at-requires g c =
    (omega (arith, c.self.invariant.width.fits), chunk_within _ _ _ _ (omega (arith, len_is _ _ _ _ c.self.view_is)) c.self.invariant.count)

pub returns : goal.returns
returns g c =
    stored_chunk _ _ _ _ _ _ c.self.invariant.width.positive c.self.view_is c.self.invariant.zero c.chunk_at.ensures.same c.chunk_at.ensures.bytes
