use Rattle.std.proofs.Common.{◌≡◌, ◌*◌, ◌+◌, ◌∙◌, length, sym, ap, refl, arith}
use Rattle.bitmap_bytes.proofs.Counting.Ones.{ones_from}
use Rattle.bitmap_bytes.specs.Chunk.{bytes_bit}
use Rattle.bitmap_bytes.proofs.Counting.Words.{count-chunk, more_byte}
use Rattle.bitmap_bytes.proofs.Counting.Places.{ones_from_mono}
use Rattle.bitmap_bytes.proofs.chunk.words.byte_ones.Goals as goal

pub overflow_add-total : goal.overflow_add-total
overflow_add-total c =
    omega (
      arith,
      more_byte _ _ _ _ refl (omega (arith, c.type_inv.bytes c.loop-byte.byte-index)) c.loop-byte.invariant,
      ones_from_mono (bytes_bit c.args.bytes.now) (8 * (c.loop-byte.byte-index + 1)) (8 * length c.args.bytes.now) (omega arith),
      count-chunk (length c.args.bytes.now) c.args.bytes.now,
    )

pub loop-byte-preserved : goal.loop-byte-preserved
loop-byte-preserved c =
    more_byte _ _ _ _ refl (omega (arith, c.type_inv.bytes c.loop-byte.byte-index)) c.loop-byte.invariant

pub returns : goal.returns
returns c =
    let e : c.loop-byte.byte-index ≡ length c.args.bytes.now = omega arith in
    c.loop-byte.invariant ∙ ap (λ k. ones_from (bytes_bit c.args.bytes.now) 0 (8 * k)) e ∙ sym (count-chunk (length c.args.bytes.now) c.args.bytes.now)
