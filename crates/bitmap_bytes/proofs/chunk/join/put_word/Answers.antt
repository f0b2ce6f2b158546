use Rattle.std.proofs.Common.{◌∙◌, ap, get_or, arith}
use Rattle.std.specs.Int.{bit_at}
use Rattle.bitmap_bytes.proofs.Words.Joined.{word_byte_bit}
use Rattle.bitmap_bytes.proofs.chunk.join.put_word.Goals as goal

pub returns-clause-here : goal.returns-clause-here
returns-clause-here g c = λ j t h s.
    let loop = c.loop-j.invariant in
    ap (λ x. bit_at x t) (loop.done j (omega arith)) ∙ ap (λ l. bit_at (get_or l j 0) t) c.to_le_bytes-bytes.ensures ∙ word_byte_bit _ j t h s
