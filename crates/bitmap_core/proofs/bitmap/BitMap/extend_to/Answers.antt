use Rattle.std.proofs.Common.{◌≡◌, ◌*◌, length, arith}
use Rattle.std.specs.Int.{div_ceil}
use Rattle.std.proofs.lemmas.Bool.{false≢true}
use Rattle.bitmap_bytes.proofs.Chunks.Places.{IsChunkCount-ceil, count_unique}
use Rattle.bitmap_bytes.proofs.Lists.Bits.{len_is}
use Rattle.bitmap_core.proofs.Lists.Edits.{bits-extend, append_nothing}
use Rattle.bitmap_core.proofs.bitmap.BitMap.extend_to.Goals as goal

pub returns-in_err-extend_zeros-clause-has_capacity : goal.returns-in_err-extend_zeros-clause-has_capacity
returns-in_err-extend_zeros-clause-has_capacity g c =
    let e : div_ceil c.self.inside.len (8 * g.row.N) ≡ length c.self.inside.chunks.items =
    count_unique _ _ _ _ (IsChunkCount-ceil _ _ c.self.invariant.width.positive) c.self.invariant.count in
    λ h. absurd (false≢true (c.in_err-extend_zeros.ensures.has_capacity (rw (len_is _ _ _ _ c.self.view_is, e) at h)))

pub returns-in_ok-extend_zeros-clause-ok : goal.returns-in_ok-extend_zeros-clause-ok
returns-in_ok-extend_zeros-clause-ok g c =
    bits-extend _ _ _ _ _ _ (omega arith) c.self.invariant.zero c.in_ok-extend_zeros.ensures.same c.self.view_is

pub returns-else-len-n-clause-ok : goal.returns-else-len-n-clause-ok
returns-else-len-n-clause-ok g c = append_nothing _ _ (omega (arith, len_is _ _ _ _ c.self.view_is))
