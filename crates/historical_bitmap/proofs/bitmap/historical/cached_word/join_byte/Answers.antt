use Rattle.std.proofs.Common.{arith, sym}
use Rattle.historical_bitmap.proofs.EditedChunks.CachedWord.{joined_in}
use Rattle.historical_bitmap.proofs.bitmap.historical.cached_word.join_byte.Goals as goal

pub returns-then-has_byte-clause-written : goal.returns-then-has_byte-clause-written
returns-then-has_byte-clause-written g c =
    let t = c.args.cache.now in
    let h = c.has_byte.ensures c.if-has_byte.true in
    λ e. (joined_in g.row.N c.args.chunks.now t.base t.count t.word c.args.bit c.requires.width h.0 (omega (arith, h)) c.args.index _ c.args.byte t.chunk c.requires.index h.1 c.requires.cached.word c.with_byte-cache.ensures.here c.with_byte-cache.ensures.others)
