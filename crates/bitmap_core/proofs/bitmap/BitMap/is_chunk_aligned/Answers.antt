use Rattle.std.proofs.Common.{◌%◌, ◌*◌, sym, ap, eqb}
use Rattle.bitmap_bytes.proofs.Lists.Bits.{len_is}
use Rattle.bitmap_core.proofs.bitmap.BitMap.is_chunk_aligned.Goals as goal

pub returns : goal.returns
returns g c = rw (c.chunk_width.ensures) (ap (λ x. eqb (x % (8 * g.row.N)) 0) (sym (len_is _ _ _ _ c.self.view_is)))
