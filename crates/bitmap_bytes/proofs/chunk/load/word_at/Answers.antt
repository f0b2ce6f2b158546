use Rattle.std.proofs.Common.{◌≡◌, ◌/◌, ◌%◌, ◌∙◌, ap, arith, eqb, get_or}
use Rattle.std.proofs.lemmas.List.{get_or-take, take_rest}
use Rattle.std.specs.Int.{bit_at}
use Rattle.bitmap_bytes.proofs.Words.Masks.{rest_bit}
use Rattle.bitmap_bytes.proofs.chunk.load.word_at.Goals as goal

pub returns-then-this-le8-clause-inside : goal.returns-then-this-le8-clause-inside
returns-then-this-le8-clause-inside g c t h s =
    let start : c.args.byte ≡ 0 = c.requires.only c.if-this-le8.true in
    rw start (ap (λ x. eqb x 1) (c.first_word.ensures t h) ∙ rest_bit g.row.N c.args.chunk.now 0 t (omega arith))

pub returns-then-this-eq0-clause-inside : goal.returns-then-this-eq0-clause-inside
returns-then-this-eq0-clause-inside g c t h s =
    ap (λ x. eqb x 1) (c.first_word-then-this-eq0.ensures t h ∙ ap (λ k. bit_at k (t % 8)) (get_or-take 8 _ (t / 8) 0 (omega arith))
    ∙ ap (λ l. bit_at (get_or l (t / 8) 0) (t % 8)) (take_rest c.args.chunk.now c.args.byte))
    ∙ rest_bit g.row.N c.args.chunk.now c.args.byte t s

pub returns-clause-inside : goal.returns-clause-inside
returns-clause-inside g c t h s =
    ap (λ x. eqb x 1) (c.first_word-2.ensures t h ∙ ap (λ l. bit_at (get_or l (t / 8) 0) (t % 8)) (take_rest c.args.chunk.now c.args.byte))
    ∙ rest_bit g.row.N c.args.chunk.now c.args.byte t s
