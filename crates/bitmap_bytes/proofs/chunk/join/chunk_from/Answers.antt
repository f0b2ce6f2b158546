use Rattle.std.proofs.Common.{◌≡◌, ◌<◌, ◌∙◌, ◌+◌, ◌-◌, ◌/◌, ◌%◌, ◌*◌, ◌++◌, length, ap, sym, arith}
use Rattle.std.proofs.Math.Nat.{div-add-mod}
use Rattle.std.proofs.lemmas.Nat.{mod_below}
use Rattle.bitmap_bytes.specs.Chunk.{bytes_bit}
use Rattle.bitmap_bytes.proofs.Bytes.Shifted.{bytes_bit-rest, bytes_bit-left, bytes_bit-right}
use Rattle.bitmap_bytes.proofs.chunk.join.chunk_from.Goals as goal

pub returns-then-at-front : goal.returns-then-at-front
returns-then-at-front g c = λ i.
    let r : i % (8 * g.row.N) < 8 * g.row.N = mod_below i (8 * g.row.N) (omega arith) in
    let e : 8 * (c.args.bit / 8) + (c.args.bit % 8 + i % (8 * g.row.N)) ≡ c.args.bit + i % (8 * g.row.N) = omega (arith, div-add-mod c.args.bit 8) in
    c.chunk_within.ensures i
    ∙ bytes_bit-rest c.args.front.now (c.args.bit / 8) (c.args.bit % 8 + i % (8 * g.row.N))
    ∙ ap (bytes_bit c.args.front.now) e
    ∙ sym (bytes_bit-left c.args.front.now c.args.back.now (c.args.bit + i % (8 * g.row.N)) (omega arith))

pub returns-then-at-front-2 : goal.returns-then-at-front-2
returns-then-at-front-2 g c = λ i.
    let e : 8 * length c.args.front.now + (8 * (c.args.bit / 8 - length c.args.front.now) + (c.args.bit % 8 + i % (8 * g.row.N)))
    ≡ c.args.bit + i % (8 * g.row.N) =
    omega (arith, div-add-mod c.args.bit 8) in
    c.chunk_within-then-at-front-2.ensures i
    ∙ bytes_bit-rest c.args.back.now (c.args.bit / 8 - length c.args.front.now) (c.args.bit % 8 + i % (8 * g.row.N))
    ∙ sym (bytes_bit-right c.args.front.now c.args.back.now (8 * (c.args.bit / 8 - length c.args.front.now) + (c.args.bit % 8 + i % (8 * g.row.N))))
    ∙ ap (bytes_bit (c.args.front.now ++ c.args.back.now)) e
