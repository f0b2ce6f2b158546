use Rattle.std.proofs.Common.{◌≡◌, ◌∙◌, ℕ, replicate, ap}
use Rattle.bitmap_bytes.specs.Chunk.{chunk_bit}
use Rattle.bitmap_bytes.proofs.Bytes.Bits.{bit_of_ones_byte, bit_of_zero_byte}
use Rattle.bitmap_bytes.proofs.Chunks.Bits.{chunk_bit-fill}
use Rattle.bitmap_bytes.proofs.chunk.whole.fill.Goals as goal
use Rattle.bitmap_bytes.proofs.chunk.whole.fill.Goals.{then-value, else-value}

pub returns : goal.returns
returns g c =
    let e : c.fill.new.self ≡ replicate g.row.N c.if-value.fill =
    c.fill.ensures.after (λ y q. q)
    ∙ ap (λ m. replicate {A = ℕ} m c.if-value.fill) c.told-chunk in
    λ i. ap (λ x. chunk_bit g.row.N x i) e ∙ chunk_bit-fill g.row.N c.if-value.fill c.args.value i c.requires (λ k s. elim c.if-value.branch [
      | then-value w ↦ rw (w.fill-is, w.if-value.true) (bit_of_ones_byte k s)
      | else-value w ↦ rw (w.if-value.false) (bit_of_zero_byte _ k w.fill-is)
    ])
