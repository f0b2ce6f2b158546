use Rattle.std.proofs.Common.{◌∙◌, sym, ap, get_or, false, arith}
use Rattle.bitmap_bytes.proofs.Lists.Bits.{at_within, len_is, get_or-bits}
use Rattle.bitmap_core.proofs.bitmap.BitMap.read_bit.Goals as goal

pub get_bit-requires : goal.get_bit-requires
get_bit-requires g c = (
  omega (arith, c.self.invariant.width.fits),
  (c.self.invariant.width, at_within _ _ _ _ _ c.self.invariant.width.positive c.self.view_is c.requires c.self.invariant.count),
)

pub returns : goal.returns
returns g c =
    c.get_bit.ensures
    ∙ sym (get_or-bits _ _ _ _ false (omega (arith, len_is _ _ _ _ c.self.view_is)))
    ∙ ap (λ x. get_or x c.args.bit false) c.self.view_is
