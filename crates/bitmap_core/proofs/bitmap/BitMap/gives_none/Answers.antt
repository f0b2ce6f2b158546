use Rattle.std.proofs.Common.{◌≡◌, ◌∙◌, sym, ap, arith}
use Rattle.bitmap_bytes.specs.Bits.{bits}
use Rattle.bitmap_bytes.proofs.Lists.Bits.{len_is}
use Rattle.bitmap_bytes.proofs.Chunks.Places.{count_unique}
use Rattle.bitmap_core.proofs.Lists.Pairs.{lists_decided}
use Rattle.bitmap_core.proofs.bitmap.BitMap.gives_none.Goals as goal

pub gives_none-requires : goal.gives_none-requires
gives_none-requires g c =
    let own = c.self.invariant in
    let e : c.other.inside.len ≡ c.self.inside.len = sym (len_is _ _ _ _ c.other.view_is) ∙ sym c.requires ∙ len_is _ _ _ _ c.self.view_is in (
      omega (arith, own.width.fits),
      (own.width.positive, count_unique g.row.N _ _ c.self.inside.len own.count (rw e at c.other.invariant.count)),
    )

pub returns : goal.returns
returns g c =
    let own = c.self.invariant in
    let e : c.other.inside.len ≡ c.self.inside.len = sym (len_is _ _ _ _ c.other.view_is) ∙ sym c.requires ∙ len_is _ _ _ _ c.self.view_is in
    lists_decided g.row.N g.B.Bitwise.gives c.self.inside.chunks.items c.other.inside.chunks.items c.self.inside.len _ _ _ g.B.Bitwise.keeps_zeros c.self.view_is
    (ap (λ k. bits g.row.N c.other.inside.chunks.items k) (sym e) ∙ c.other.view_is) own.zero (rw e at c.other.invariant.zero) c.gives_none.ensures
