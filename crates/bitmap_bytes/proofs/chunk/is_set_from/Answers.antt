use Rattle.std.proofs.Common.{ap, not, arith, ◌*◌, ◌∙◌}
use Rattle.std.specs.List.{list_all, slice_range}
use Rattle.bitmap_bytes.specs.Chunk.{chunk_bits}
use Rattle.bitmap_bytes.proofs.Counting.Tests.{some_chunk_slice}
use Rattle.bitmap_bytes.proofs.chunk.is_set_from.Goals as goal

pub returns : goal.returns
returns g c =
    ap not (c.is_unset.ensures ∙ ap (λ w. list_all not (slice_range (chunk_bits w c.args.chunk.now) c.args.from (8 * g.row.N))) c.told-chunk)
    ∙ some_chunk_slice g.row.N c.args.chunk.now c.args.from (8 * g.row.N) (omega arith)
