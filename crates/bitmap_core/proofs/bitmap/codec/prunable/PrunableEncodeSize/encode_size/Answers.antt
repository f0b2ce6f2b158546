use Rattle.std.proofs.Common.{arith, ap, length}
use Rattle.bitmap_core.specs.Encoding.{encoding}
use Rattle.bitmap_core.proofs.Pruned.Codec.{length-pruned}
use Rattle.bitmap_core.proofs.Codec.Parts.{encoding-lt}
use Rattle.bitmap_core.proofs.bitmap.codec.prunable.PrunableEncodeSize.encode_size.Goals as goal

pub overflow_add-result : goal.overflow_add-result
overflow_add-result g c =
    let retained = c.retained.ensures in
    omega (
      arith,
      c.encode_size.ensures,
      encoding-lt _ c.retained.result.now retained.width.positive retained.width.fits (omega (arith, ap length retained.value, retained.bound)),
    )

pub returns : goal.returns
returns g c =
    omega (arith, length-pruned g.row.N c.args.self.now, c.encode_size.ensures, ap (λ x. length (encoding g.row.N x)) c.retained.ensures.value)
