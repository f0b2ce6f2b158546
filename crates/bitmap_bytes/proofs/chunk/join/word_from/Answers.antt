use Rattle.std.proofs.Common.{◌≡◌, ◌∙◌, ◌+◌, ap, take, drop, w64, rules, arith}
use Rattle.std.specs.Int.{bit_at, from_le_bytes}
use Rattle.bitmap_bytes.proofs.Words.Joined.{joined_word_bit}
use Rattle.bitmap_bytes.proofs.chunk.join.word_from.Goals as goal

pub returns : goal.returns
returns c =
    let v : c.from_le_bytes.result ≡ from_le_bytes w64 (take 8 (drop c.args.at c.args.bytes.now)) = search rules in
    λ t h. joined_word_bit c.args.bytes.now c.args.at c.args.skip _ t (λ i. let f = c.type_inv.bytes i in omega arith) c.requires.place h (λ u.
    c.joined_word.ensures.low t u
    ∙ ap (λ x. bit_at x (t + c.args.skip)) v) (c.joined_word.ensures.high t h)
