use Rattle.std.proofs.Common.{take, arith}
use Rattle.bitmap_core.proofs.Slices.{part_length, part_items, words_all, words_bit, words_most, words_whole}
use Rattle.bitmap_core.proofs.bitmap.readable.in_place.words_of.Goals as goal

pub returns-clause-most : goal.returns-clause-most
returns-clause-most g c =
    words_most g.row.N c.whole_count.result c.args.chunks.now (take c.whole_count.result c.args.chunks.now) c.as_chunks.result.0.now c.as_flattened.result.now
    c.requires.width.positive c.all_known.ensures (part_length c.whole_count.result 0 c.args.chunks.now (omega (arith, c.whole_count.ensures.within)))
    (part_items c.whole_count.result 0 c.args.chunks.now) c.as_flattened.ensures.value c.as_chunks.ensures.front c.whole_count.ensures.whole c.whole_count.ensures.most

pub returns-clause-all : goal.returns-clause-all
returns-clause-all g c = λ n8.
    words_all g.row.N c.whole_count.result c.args.chunks.now (take c.whole_count.result c.args.chunks.now) c.as_chunks.result.0.now c.as_flattened.result.now
    c.requires.width.positive c.all_known.ensures (part_length c.whole_count.result 0 c.args.chunks.now (omega (arith, c.whole_count.ensures.within)))
    (part_items c.whole_count.result 0 c.args.chunks.now) c.as_flattened.ensures.value c.as_chunks.ensures.front c.whole_count.ensures.whole (c.whole_count.ensures.all n8)

pub returns-clause-whole : goal.returns-clause-whole
returns-clause-whole g c =
    words_whole g.row.N c.whole_count.result c.args.chunks.now (take c.whole_count.result c.args.chunks.now) c.as_chunks.result.0.now c.as_flattened.result.now
    c.requires.width.positive c.all_known.ensures (part_length c.whole_count.result 0 c.args.chunks.now (omega (arith, c.whole_count.ensures.within)))
    (part_items c.whole_count.result 0 c.args.chunks.now) c.as_flattened.ensures.value c.as_chunks.ensures.front c.whole_count.ensures.whole

pub returns-clause-bits : goal.returns-clause-bits
returns-clause-bits g c =
    words_bit g.row.N c.whole_count.result c.args.chunks.now (take c.whole_count.result c.args.chunks.now) c.as_chunks.result.0.now c.as_flattened.result.now
    c.requires.width.positive c.all_known.ensures (part_length c.whole_count.result 0 c.args.chunks.now (omega (arith, c.whole_count.ensures.within)))
    (part_items c.whole_count.result 0 c.args.chunks.now) c.as_flattened.ensures.value c.as_chunks.ensures.front c.whole_count.ensures.whole
