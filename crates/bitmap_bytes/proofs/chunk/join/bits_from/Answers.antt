use Rattle.std.proofs.Common.{◌∙◌, ◌+◌, ◌-◌, ◌++◌, ap}
use Rattle.std.specs.Int.{bit_at}
use Rattle.bitmap_bytes.proofs.Bytes.Shifted.{joined_bit}
use Rattle.bitmap_bytes.proofs.chunk.join.bits_from.Goals as goal

pub returns : goal.returns
returns c = λ t h.
    joined_bit (c.args.front.now ++ c.args.back.now) c.args.at c.args.skip _ t c.requires.place h (λ u.
    c.joined_byte.ensures.low t u
    ∙ ap
    (λ x. bit_at x (t + c.args.skip)) c.byte_at.ensures) (λ u. c.joined_byte.ensures.high t h u ∙ ap (λ x. bit_at x (t + c.args.skip - 8)) c.byte_at-2.ensures)
