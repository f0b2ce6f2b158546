use Rattle.std.proofs.Common.{◌∙◌, ap}
use Rattle.bitmap_bytes.specs.Chunk.{bytes_bit}
use Rattle.bitmap_bytes.proofs.Bytes.Shifted.{bytes_bit-flat}
use Rattle.bitmap_c.proofs.bytes.flat.Goals as goal

pub returns-clause-bits : goal.returns-clause-bits
returns-clause-bits g c = λ i.
    ap (λ l. bytes_bit l i) c.as_flattened.ensures.value
    ∙ bytes_bit-flat g.row.N c.args.chunks.now c.requires.width.positive (λ j w. (c.all_known.ensures j w).len) i
