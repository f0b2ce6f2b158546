use Rattle.std.proofs.Common.{sym, arith}
use Rattle.historical_bitmap.proofs.EditedChunks.CachedWord.{loaded_same, loaded_start, loaded_word}
use Rattle.historical_bitmap.proofs.bitmap.historical.cached_word.load.Goals as goal

pub word_below-requires : goal.word_below-requires
word_below-requires g c = (omega (arith, c.requires.width.fits), (c.requires.width, loaded_start g.row.N c.args.bit c.requires.width.positive c.word_base-base.result c.in-Some-following_word.end c.word_base-base.ensures c.in-Some-following_word.ensures))

pub returns-clause-cached : goal.returns-clause-cached
returns-clause-cached g c = record {
  width = c.requires.width;
  word = loaded_word g.row.N c.args.bit c.args.index c.requires.width.positive c.requires.index c.args.chunks.now c.word_base-base.result c.in-Some-following_word.end c.in-Some.bytes.now c.word_base-base.ensures c.in-Some-following_word.ensures c.in-Some.ensures.sorted (sym c.in-Some.ensures.value) (omega arith);
}

pub returns-clause-same : goal.returns-clause-same
returns-clause-same g c =
    let word = loaded_word g.row.N c.args.bit c.args.index c.requires.width.positive c.requires.index c.args.chunks.now c.word_base-base.result c.in-Some-following_word.end c.in-Some.bytes.now c.word_base-base.ensures c.in-Some-following_word.ensures c.in-Some.ensures.sorted (sym c.in-Some.ensures.value) (omega arith) in
    loaded_same g.row.N c.args.bit c.args.index c.requires.width.positive c.requires.index c.args.chunks.now c.word_base-base.result c.in-Some-following_word.end c.word_below.result c.in-Some.bytes.now c.word_base-base.ensures c.in-Some-following_word.ensures word (sym c.in-Some.ensures.value) c.known.ensures c.word_below.ensures.inside
