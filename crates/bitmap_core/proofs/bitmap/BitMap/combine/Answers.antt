use Rattle.std.proofs.Common.{◌≡◌, ◌∙◌, sym, ap, length, arith}
use Rattle.bitmap_bytes.specs.Bits.{bits}
use Rattle.bitmap_bytes.proofs.Lists.Bits.{len_is}
use Rattle.bitmap_bytes.proofs.Chunks.Places.{count_unique}
use Rattle.bitmap_core.proofs.Lists.WholeBits.{bits-zip, IsZeroFrom-zip}
use Rattle.bitmap_core.proofs.bitmap.BitMap.combine.Goals as goal

pub combine-requires : goal.combine-requires
combine-requires g c =
    let cached = c.self.invariant in
    let e : c.other.inside.len ≡ c.self.inside.len = sym (len_is _ _ _ _ c.other.view_is) ∙ sym c.requires ∙ len_is _ _ _ _ c.self.view_is in (
      omega (arith, cached.width.fits),
      (
        cached.width.positive,
        count_unique g.row.N (length c.self.inside.chunks.items) (length c.other.inside.chunks.items) c.self.inside.len cached.count
            (rw e at c.other.invariant.count),
      ),
    )

pub invariant_of-self : goal.invariant_of-self
invariant_of-self g c =
    let cached = c.self.invariant in
    let e : c.other.inside.len ≡ c.self.inside.len = sym (len_is _ _ _ _ c.other.view_is) ∙ sym c.requires ∙ len_is _ _ _ _ c.self.view_is in
    (record {
      width = cached.width;
      count = rw c.combine.ensures.count cached.count;
      zero = IsZeroFrom-zip _ _ _ _ _ _ g.B.Bitwise.keeps_zeros c.combine.ensures cached.zero (rw e at c.other.invariant.zero);
    })

pub returns : goal.returns
returns g c =
    let cached = c.self.invariant in
    let e : c.other.inside.len ≡ c.self.inside.len = sym (len_is _ _ _ _ c.other.view_is) ∙ sym c.requires ∙ len_is _ _ _ _ c.self.view_is in
    bits-zip g.row.N _ c.self.inside.chunks.items c.other.inside.chunks.items c.combine.new.chunks.items c.self.inside.len _ _ cached.width.positive cached.count c.combine.ensures c.self.view_is
    (ap (λ k. bits g.row.N c.other.inside.chunks.items k) (sym e) ∙ c.other.view_is)
