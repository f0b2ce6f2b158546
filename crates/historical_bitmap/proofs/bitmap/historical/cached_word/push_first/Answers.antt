use Rattle.std.proofs.Common.{sym, arith}
use Rattle.historical_bitmap.specs.CachedWord.{with_word}
use Rattle.historical_bitmap.proofs.EditedChunks.CachedWord.{begun_first}
use Rattle.historical_bitmap.proofs.bitmap.historical.cached_word.push_first.Goals as goal

pub returns-clause-ok : goal.returns-clause-ok
returns-clause-ok g c =
    let t = c.args.cache.now in
    let b = c.begin_word in
    let none = c.requires.absent in
    let put = rw c.settle.ensures.value at c.in_ok-open.ensures.ok in
    let begun = begun_first g.row.N c.args.index c.args.bit c.args.value c.requires.width c.requires.index (omega (arith, c.requires.start)) c.requires.fits b.result.chunk b.result.base b.result.count b.result.word b.ensures.chunk b.ensures.base b.ensures.count b.ensures.word (with_word g.row.N c.args.chunks.now t.chunk t.base t.count t.word) c.open.new.self c.open.ensures.sorted none put in
    (begun.1, begun.2)
