use Rattle.std.proofs.Common.{sym}
use Rattle.historical_bitmap.proofs.EditedChunks.CachedWord.{sets_between}
use Rattle.historical_bitmap.proofs.bitmap.historical.cached_word.push_inside.Goals as goal

pub returns-clause-ok : goal.returns-clause-ok
returns-clause-ok g c =
    let set = c.in_ok-push_bit.ensures.ok in
    (sets_between g.row.N _ _ c.settle.new.chunks c.push_bit.new.self _ _ c.args.bit c.args.value c.settle.ensures.value c.load.ensures.same set)
