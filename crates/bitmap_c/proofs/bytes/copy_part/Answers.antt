use Rattle.std.proofs.Common.{◌∙◌, ◌-◌, ◌*◌, ◌%◌, length, arith}
use Rattle.std.proofs.lemmas.Bool.Decides.{nat_tests}
use Rattle.bitmap_c.proofs.Packed.{chunk_bytes, copied_bits, held_bytes, place_among}
use Rattle.bitmap_c.proofs.bytes.copy_part.Goals as goal

pub returns-then-is_empty-clause-copied : goal.returns-then-is_empty-clause-copied
returns-then-is_empty-clause-copied g c = λ i h w.
    copied_bits c.get_chunk-chunk.result c.copy_to.new.out (c.args.first % g.row.N) c.args.at c.copy_to.result c.copy_to.ensures.copied i h
    ∙ chunk_bytes g.row.N (g.B.Readable.meaning c.args.bitmap.now) c.args.first c.get_chunk-chunk.result c.get_chunk-chunk.ensures i
    (omega (arith, c.copy_to.ensures.count)) w

pub copy_to-requires-2-clause-from : goal.copy_to-requires-2-clause-from
copy_to-requires-2-clause-from g c =
    let around = c.chunks_around-start.result in
    let included = c.chunks_around-start.ensures.included (grind (arith, nat_tests)) in
    let place = place_among g.row.N around.1 (length around.0.now) c.args.first c.requires.lawful.width.positive included in
    omega (arith, place.0, place.1, c.flat.ensures.size)

pub returns-clause-some : goal.returns-clause-some
returns-clause-some g c =
    let around = c.chunks_around-start.result in
    let included = c.chunks_around-start.ensures.included (grind (arith, nat_tests)) in
    let place = place_among g.row.N around.1 (length around.0.now) c.args.first c.requires.lawful.width.positive included in
    omega (arith, place.0, place.1, c.flat.ensures.size, c.copy_to-2.ensures.count, c.requires.space)

pub returns-clause-copied : goal.returns-clause-copied
returns-clause-copied g c = λ i h w.
    let around = c.chunks_around-start.result in
    let included = c.chunks_around-start.ensures.included (grind (arith, nat_tests)) in
    let place = place_among g.row.N around.1 (length around.0.now) c.args.first c.requires.lawful.width.positive included in
    copied_bits c.flat.result.now c.copy_to-2.new.out (c.args.first - g.row.N * around.1) c.args.at c.copy_to-2.result c.copy_to-2.ensures.copied i h
    ∙ held_bytes g.row.N (g.B.Readable.meaning c.args.bitmap.now) around.1 c.args.first around.0.now c.flat.result.now
    c.requires.lawful.width.positive place.0 c.chunks_around-start.ensures.shown c.flat.ensures.bits i
    (omega (arith, h, place.0, place.1, c.flat.ensures.size, c.copy_to-2.ensures.count)) w
