use Rattle.std.proofs.Common.{arith, refl, sym, ◌∙◌}
use Rattle.historical_bitmap.proofs.EditedChunks.CachedWord.{byte_between, byte_end, joined_in}
use Rattle.historical_bitmap.proofs.bitmap.historical.cached_word.join_other.Goals as goal

pub load-requires : goal.load-requires
load-requires g c = (omega (arith, c.requires.fits), (c.requires.width, byte_end g.row.N c.args.index c.args.bit c.requires.index c.requires.space))

pub returns-then-has_byte-clause-written : goal.returns-then-has_byte-clause-written
returns-then-has_byte-clause-written g c =
    let t = c.load-loaded.result in
    let h = c.has_byte.ensures c.if-has_byte.true in
    let byte = c.with_byte-cache in
    let joined = joined_in g.row.N c.settle.new.chunks t.base t.count t.word c.args.bit c.requires.width h.0 (omega (arith, h)) c.args.index byte.result c.args.byte t.chunk c.requires.index h.1 c.load-loaded.ensures.cached.word byte.ensures.here byte.ensures.others in
    λ yes. (byte_between g.row.N _ _ _ _ c.args.index c.args.bit c.args.byte (c.load-loaded.ensures.same ∙ c.settle.ensures.value) refl joined)

pub returns-clause-written : goal.returns-clause-written
returns-clause-written g c =
    λ yes. (byte_between g.row.N _ c.settle.new.chunks c.join_byte.new.self _ c.args.index c.args.bit c.args.byte c.settle.ensures.value c.load.ensures.same (c.join_byte.ensures.written c.if-not-join_byte.false))
