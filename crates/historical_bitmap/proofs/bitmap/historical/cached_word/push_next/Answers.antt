use Rattle.std.proofs.Common.{sym, ◌∙◌}
use Rattle.historical_bitmap.proofs.EditedChunks.CachedWord.{begun_next}
use Rattle.historical_bitmap.proofs.bitmap.historical.cached_word.push_next.Goals as goal

pub returns-clause-cached : goal.returns-clause-cached
returns-clause-cached g c =
    let t = c.args.cache.now in
    let b = c.begin_word in
    let here = sym c.is_cached.ensures ∙ c.if-not-is_cached.false in
    let clear = c.requires.zero in
    (begun_next g.row.N c.args.index c.args.bit c.args.value c.requires.width c.requires.index c.requires.starts c.requires.fits b.result.chunk b.result.base b.result.count b.result.word b.ensures.chunk b.ensures.base b.ensures.count b.ensures.word c.args.chunks.now t.chunk t.base t.count t.word c.requires.cached here clear c.settle.new.chunks c.settle.ensures.value).0

pub returns-clause-written : goal.returns-clause-written
returns-clause-written g c =
    let t = c.args.cache.now in
    let b = c.begin_word in
    let here = sym c.is_cached.ensures ∙ c.if-not-is_cached.false in
    let clear = c.requires.zero in
    let begun = begun_next g.row.N c.args.index c.args.bit c.args.value c.requires.width c.requires.index c.requires.starts c.requires.fits b.result.chunk b.result.base b.result.count b.result.word b.ensures.chunk b.ensures.base b.ensures.count b.ensures.word c.args.chunks.now t.chunk t.base t.count t.word c.requires.cached here clear c.settle.new.chunks c.settle.ensures.value in
    λ yes first. rw (sym c.settle.ensures.value) (begun.1 first)
