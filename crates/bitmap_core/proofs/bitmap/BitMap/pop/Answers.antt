use Rattle.std.proofs.Common.{◌≡◌, ◌+◌, ◌-◌, ◌∙◌, arith}
use Rattle.bitmap_bytes.proofs.Lists.Bits.{len_is}
use Rattle.bitmap_bytes.proofs.Chunks.Places.{last_within}
use Rattle.bitmap_core.proofs.Lists.Edits.{bits-pop}
use Rattle.bitmap_bytes.proofs.Chunks.Lists.{IsZeroFrom-pop}
use Rattle.bitmap_core.proofs.bitmap.BitMap.pop.Goals as goal

pub overflow_sub-last : goal.overflow_sub-last
overflow_sub-last g c = omega (arith, len_is _ _ _ _ c.self.view_is)

pub get_bit-bit-requires : goal.get_bit-bit-requires
get_bit-bit-requires g c =
    let l = len_is _ _ _ _ c.self.view_is in
    let e : c.self.inside.len - 1 + 1 ≡ c.self.inside.len = omega arith in (
      omega (arith, c.self.invariant.width.fits),
      (c.self.invariant.width, last_within _ _ _ c.self.invariant.width.positive (rw e c.self.invariant.count)),
    )

pub set_bit-requires : goal.set_bit-requires
set_bit-requires g c =
    let l = len_is _ _ _ _ c.self.view_is in
    let e : c.self.inside.len - 1 + 1 ≡ c.self.inside.len = omega arith in (
      omega (arith, c.self.invariant.width.fits),
      (c.self.invariant.width, last_within _ _ _ c.self.invariant.width.positive (rw e c.self.invariant.count)),
    )

pub drop_space-requires : goal.drop_space-requires
drop_space-requires g c =
    let l = len_is _ _ _ _ c.self.view_is in
    let e : c.self.inside.len - 1 + 1 ≡ c.self.inside.len = omega arith in (
      omega (arith, c.self.invariant.width.fits),
      (
        c.self.invariant.width,
        (rw (e, c.set_bit.ensures.count) c.self.invariant.count, IsZeroFrom-pop _ _ _ _ _ e c.set_bit.ensures c.self.invariant.zero),
      ),
    )

pub invariant_of-self : goal.invariant_of-self
invariant_of-self g c =
    let cached = c.self.invariant in
    let l = len_is _ _ _ _ c.self.view_is in
    let e : c.self.inside.len - 1 + 1 ≡ c.self.inside.len = omega arith in
    (record {
      width = cached.width;
      count = c.drop_space.ensures.count;
      zero = λ i h. c.drop_space.ensures.same i ∙ IsZeroFrom-pop _ _ _ _ _ e c.set_bit.ensures cached.zero i h;
    })

pub returns : goal.returns
returns g c =
    let l = len_is _ _ _ _ c.self.view_is in
    let e : c.self.inside.len - 1 + 1 ≡ c.self.inside.len = omega arith in
    rw c.get_bit-bit.ensures
    (bits-pop _ _ _ _ _ _ e (λ i h. c.drop_space.ensures.same i ∙ c.set_bit.ensures.others i (λ q. absurd (omega arith))) c.self.view_is)
