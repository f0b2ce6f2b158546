use Rattle.std.proofs.Common.{arith, ◌∙◌, sym, refl, length}
use Rattle.bitmap_core.proofs.Codec.Parts.{encoding-lt, all_bytes}
use Rattle.bitmap_core.proofs.bitmap.codec.dense.BitMapEncodeSize.encode_size.Goals as goal

pub max_encode_size-requires-clause-space : goal.max_encode_size-requires-clause-space
max_encode_size-requires-clause-space g c =
    let e = c.len.ensures in
    let l = encoding-lt g.row.N c.args.self.now e.width.positive e.width.fits e.bound in
    rw e.value (omega (arith, all_bytes g.row.N (length c.args.self.now) c.args.self.now refl))

pub returns : goal.returns
returns g c = rw c.len.ensures.value at c.max_encode_size.ensures.value ∙ sym (all_bytes g.row.N (length c.args.self.now) c.args.self.now refl)
