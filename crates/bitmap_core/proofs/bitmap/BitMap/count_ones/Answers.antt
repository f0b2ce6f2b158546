use Rattle.std.proofs.Common.{◌*◌, ◌∙◌, length, arith}
use Rattle.bitmap_bytes.specs.Bits.{chunks_bit}
use Rattle.bitmap_bytes.proofs.Lists.Bits.{len_is}
use Rattle.bitmap_bytes.proofs.Counting.Ones.{count-bits, ones_from_bound}
use Rattle.bitmap_bytes.proofs.Counting.Places.{count-whole}
use Rattle.bitmap_core.proofs.bitmap.BitMap.count_ones.Goals as goal

pub count_ones-requires : goal.count_ones-requires
count_ones-requires g c =
    let cached = c.self.invariant in
    let e = count-bits g.row.N c.self.inside.chunks.items (8 * g.row.N * length c.self.inside.chunks.items) in
    let l = len_is _ _ _ _ c.self.view_is in
    let b = ones_from_bound (chunks_bit g.row.N c.self.inside.chunks.items) c.self.inside.len
    (8 * g.row.N * length c.self.inside.chunks.items) cached.zero in
    (omega (arith, cached.width.fits), (cached.width.positive, omega arith))

pub returns : goal.returns
returns g c = c.count_ones.ensures ∙ count-whole _ _ _ _ c.self.view_is c.self.invariant.count c.self.invariant.zero
