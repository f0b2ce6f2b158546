use Rattle.std.proofs.Common.{◌≡◌, ◌∙◌, ◌+◌, ◌-◌, ◌%◌, ◌*◌, ap, sym, take, get_or, eqb, rules, arith}
use Rattle.std.specs.Int.{bit_at}
use Rattle.std.proofs.lemmas.List.{get_or-take}
use Rattle.bitmap_bytes.specs.Chunk.{bytes_bit}
use Rattle.bitmap_bytes.proofs.Bytes.Shifted.{filled_bits}
use Rattle.bitmap_bytes.proofs.Counting.Words.{bytes_bit-at}
use Rattle.bitmap_bytes.proofs.chunk.join.chunk_within.Goals as goal

pub returns-then-skip-eq0 : goal.returns-then-skip-eq0
returns-then-skip-eq0 g c = λ i.
    let v : c.unwrap.result ≡ take g.row.N c.args.bytes.now = search rules in
    let e : c.args.skip + (i % (8 * g.row.N) - 8 * 0) ≡ c.args.skip + i % (8 * g.row.N) = omega arith in
    filled_bits g.row.N 0 c.args.skip c.args.bytes.now c.unwrap.result c.requires.positive (λ k t u h w.
    let q : 8 * k + t ≡ c.args.skip + (8 * (k - 0) + t) = omega arith in
    ap (λ l. eqb (bit_at (get_or l k 0) t) 1) v
    ∙ ap (λ b. eqb (bit_at b t) 1) (get_or-take g.row.N c.args.bytes.now k 0 h)
    ∙ sym (bytes_bit-at c.args.bytes.now k t w)
    ∙ ap (bytes_bit c.args.bytes.now) q) i (omega arith) ∙ ap (bytes_bit c.args.bytes.now) e

pub returns : goal.returns
returns g c = λ i.
    let e : c.args.skip + (i % (8 * g.row.N) - 8 * 0) ≡ c.args.skip + i % (8 * g.row.N) = omega arith in
    filled_bits g.row.N 0 c.args.skip c.args.bytes.now c.loop-j.chunk c.requires.positive (λ k t u h w.
    let q : c.args.skip + (8 * k + t) ≡ c.args.skip + (8 * (k - 0) + t) = omega arith in
    c.loop-j.invariant.done k t (omega arith) w ∙ ap (bytes_bit c.args.bytes.now) q) i (omega arith) ∙ ap (bytes_bit c.args.bytes.now) e
