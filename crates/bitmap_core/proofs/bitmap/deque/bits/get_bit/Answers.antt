use Rattle.std.proofs.Common.{◌∙◌, ap, arith, []}
use Rattle.std.proofs.lemmas.List.{get_or_read}
use Rattle.bitmap_bytes.specs.Chunk.{chunk_bit}
use Rattle.bitmap_core.proofs.bitmap.deque.bits.get_bit.Goals as goal

pub index-requires : goal.index-requires
index-requires g c = rw c.chunk_index.ensures (omega (arith, c.args.chunks.now.ok.0))

pub returns : goal.returns
returns g c =
    c.get_bit.ensures
    ∙ ap (λ x. chunk_bit g.row.N x c.args.bit) (get_or_read _ _ _ c.requires.within (rw c.chunk_index.ensures at c.index.ensures) [])
