use Rattle.std.proofs.Common.{◌-◌, ◌*◌, ◌/◌, ◌∙◌, ap, arith, sym, take}
use Rattle.bitmap_core.specs.PrunedBits.{chunk, plain_bits}
use Rattle.bitmap_bytes.proofs.Lists.Bits.{len_is}
use Rattle.bitmap_core.proofs.Chunks.Whole.{last_whole, IsChunkCount-last, IsZeroFrom-last, bits-last}
use Rattle.bitmap_core.proofs.bitmap.BitMap.remove_last_chunk.Goals as goal

pub overflow_sub-chunk_index : goal.overflow_sub-chunk_index
overflow_sub-chunk_index g c =
    let w = last_whole _ _ _ _ c.self.invariant.width.positive c.self.invariant.count c.self.view_is c.requires.aligned c.requires.filled in
    rw (c.chunk_index.ensures, w.1) w.2

pub chunk_at-chunk-requires : goal.chunk_at-chunk-requires
chunk_at-chunk-requires g c =
    let w = last_whole _ _ _ _ c.self.invariant.width.positive c.self.invariant.count c.self.view_is c.requires.aligned c.requires.filled in (
      omega arith,
      (omega (arith, c.self.invariant.width.fits), rw (c.chunk_index.ensures, w.1) (omega (arith, w.0, w.3, c.self.invariant.width.positive))),
    )

pub overflow_sub-self : goal.overflow_sub-self
overflow_sub-self g c =
    let w = last_whole _ _ _ _ c.self.invariant.width.positive c.self.invariant.count c.self.view_is c.requires.aligned c.requires.filled in
    rw c.chunk_width.ensures (omega (arith, w.3))

pub invariant_of-self : goal.invariant_of-self
invariant_of-self g c =
    let cached = c.self.invariant in
    let y = c.pop_back.ensures.rest ∙ ap (λ m. take (m - 1) c.self.inside.chunks.items) c.self.inside.chunks.ok.0 in
    rw c.chunk_width.ensures (record {
      width = cached.width;
      count = IsChunkCount-last _ _ _ _ _ cached.width.positive cached.count c.self.view_is c.requires.aligned c.requires.filled y;
      zero = IsZeroFrom-last _ _ _ _ _ cached.width.positive cached.count c.self.view_is c.requires.aligned c.requires.filled y;
    })

pub returns-clause-value : goal.returns-clause-value
returns-clause-value g c =
    let index = c.chunk_index.ensures in
    c.chunk_at-chunk.ensures
    ∙ ap (λ i. chunk g.row.N (plain_bits c.args.self.now) (i - 1)) (index ∙ ap (λ x. x / (8 * g.row.N)) (sym (len_is _ _ _ _ c.self.view_is)))

pub returns-clause-rest : goal.returns-clause-rest
returns-clause-rest g c =
    let cached = c.self.invariant in
    let width = c.chunk_width.ensures in
    let y = c.pop_back.ensures.rest ∙ ap (λ m. take (m - 1) c.self.inside.chunks.items) c.self.inside.chunks.ok.0 in
    rw width (bits-last _ _ _ _ _ cached.width.positive cached.count c.self.view_is c.requires.aligned c.requires.filled y)
