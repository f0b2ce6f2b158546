use Rattle.std.proofs.Common.{◌∙◌, ◌%◌, arith}
use Rattle.std.proofs.lemmas.Nat.{mod_below}
use Rattle.bitmap_c.proofs.Packed.{chunk_bytes, one_byte}
use Rattle.bitmap_c.proofs.bytes.byte_at.Goals as goal

pub returns : goal.returns
returns g c = λ i h w.
    one_byte c.get_chunk-chunk.result (c.args.at % g.row.N) i h
    ∙ chunk_bytes g.row.N (g.B.Readable.meaning c.args.bitmap.now) c.args.at c.get_chunk-chunk.result c.get_chunk-chunk.ensures i
    (omega (arith, mod_below c.args.at g.row.N c.requires.lawful.width.positive)) w
