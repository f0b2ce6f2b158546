use Rattle.std.proofs.Common.{◌≡◌, ◌∙◌, sym, ap, get_or, false, arith}
use Rattle.bitmap_bytes.specs.Bits.{chunks_bit}
use Rattle.bitmap_bytes.proofs.Lists.Bits.{at_within, len_is, get_or-bits}
use Rattle.bitmap_core.proofs.Lists.Edits.{bits-put}
use Rattle.bitmap_bytes.proofs.Chunks.Lists.{IsZeroFrom-put}
use Rattle.bitmap_core.proofs.bitmap.BitMap.flip.Goals as goal

pub flip_bit-requires : goal.flip_bit-requires
flip_bit-requires g c = (
  omega (arith, c.self.invariant.width.fits),
  (c.self.invariant.width, at_within _ _ _ _ _ c.self.invariant.width.positive c.self.view_is c.requires c.self.invariant.count),
)

pub invariant_of-self : goal.invariant_of-self
invariant_of-self g c = record {
  width = c.self.invariant.width;
  count = rw c.flip_bit.ensures.count c.self.invariant.count;
  zero = IsZeroFrom-put _ _ _ _ _ _ c.flip_bit.ensures (omega (arith, len_is _ _ _ _ c.self.view_is)) c.self.invariant.zero;
}

pub returns : goal.returns
returns g c =
    let l = len_is _ _ _ _ c.self.view_is in
    let old : chunks_bit g.row.N c.self.inside.chunks.items c.args.bit ≡ get_or c.args.self.now c.args.bit false =
    sym (get_or-bits _ _ _ _ false (omega arith))
    ∙ ap (λ x. get_or x c.args.bit false) c.self.view_is in
    rw old at (bits-put _ _ _ _ _ _ _ c.flip_bit.ensures c.self.view_is (omega arith))
