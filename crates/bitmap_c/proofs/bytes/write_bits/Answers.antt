use Rattle.std.proofs.Common.{◌≡◌, ℕ, ◌+◌, ◌-◌, ◌*◌, ◌/◌, ◌<◌, ◌∙◌, [], ◌∷◌, length, ap, arith}
use Rattle.bitmap_bytes.specs.Chunk.{bytes_bit}
use Rattle.bitmap_c.proofs.Packed.{packed_is}
use Rattle.bitmap_c.proofs.bytes.write_bits.Goals.{then-past-byte_count, else-past-byte_count}
use Rattle.bitmap_c.proofs.bytes.write_bits.Goals as goal

pub returns : goal.returns
returns g c =
    let m = g.B.Readable.meaning c.args.bitmap.now in
    let a = c.args in
    let copied = c.copy_bytes.new.out in
    let next = c.if-past-byte_count.next in
    let size : length copied ≡ length a.out.now = c.copy_bytes.ensures.size in
    let count : c.byte_count.result ≡ (a.to - 0 + 7) / 8 = c.byte_count.ensures in
    let after : (i : ℕ) → i < 8 → 8 * (a.from / 8 + length copied) + i < a.to
    → bytes_bit (next ∷ []) i ≡ m.bit (8 * (a.from / 8 + length copied) + i) = λ i h b.
    elim c.if-past-byte_count.branch [
      | then-past-byte_count w ↦
          let e : 8 * (a.from / 8 + length a.out.now) + i ≡ 8 * (a.from / 8 + length copied) + i = omega (arith, size) in
          ap (λ x. bytes_bit (x ∷ []) i) w.next-is
          ∙ w.byte_at-next.ensures i h (omega (arith, b, size, c.requires.within))
          ∙ ap m.bit e
      | else-past-byte_count w ↦ absurd (omega (arith, b, size, count, w.if-past-byte_count.false))
    ] in
    packed_is m a.from a.to next copied c.shift_down.new.bytes c.clear_from.new.bytes c.requires.order c.requires.within (size ∙ c.requires.size)
    (λ i h w. c.copy_bytes.ensures.copied i (omega (arith, h, size)) w) after
    c.shift_down.ensures.shifted c.clear_from.ensures.kept c.clear_from.ensures.cleared
    (c.clear_from.ensures.size ∙ c.shift_down.ensures.size) c.fit.ensures
