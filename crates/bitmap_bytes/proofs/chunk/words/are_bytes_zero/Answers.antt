use Rattle.std.proofs.Common.{get_or, ◌<◌, ◌≡◌, ◌*◌, ◌∙◌, length, sym, ap, eqb, arith}
use Rattle.bitmap_bytes.proofs.Counting.Ones.{ones_from}
use Rattle.bitmap_bytes.specs.Chunk.{bytes_bit}
use Rattle.bitmap_bytes.proofs.Counting.Words.{none_chunk, zero_byte, other_byte}
use Rattle.bitmap_bytes.proofs.chunk.words.are_bytes_zero.Goals as goal

pub returns-then-byte-ne0 : goal.returns-then-byte-ne0
returns-then-byte-ne0 c =
    let is_byte : get_or c.args.bytes.now c.loop-byte.byte-index 0 < 256 = omega (arith, c.type_inv.bytes c.loop-byte.byte-index) in
    sym (other_byte c.args.bytes.now c.loop-byte.byte-index c.loop-byte-test.true is_byte c.if-byte-ne0.true c.loop-byte.invariant)

pub loop-byte-preserved : goal.loop-byte-preserved
loop-byte-preserved c = zero_byte c.args.bytes.now c.loop-byte.byte-index c.if-byte-ne0.false c.loop-byte.invariant

pub returns : goal.returns
returns c =
    let e : c.loop-byte.byte-index ≡ length c.args.bytes.now = omega arith in
    let none = sym (ap (λ k. ones_from (bytes_bit c.args.bytes.now) 0 (8 * k)) e) ∙ c.loop-byte.invariant in
    sym (none_chunk (length c.args.bytes.now) c.args.bytes.now ∙ ap (λ x. eqb x 0) none)
