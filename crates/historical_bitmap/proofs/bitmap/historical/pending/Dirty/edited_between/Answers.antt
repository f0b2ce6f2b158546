use Rattle.std.proofs.Common.{sym, ap, ◌∙◌}
use Rattle.historical_bitmap.specs.Pending.{members_between}
use Rattle.historical_bitmap.proofs.EditedChunks.CachedWord.{word_keys}
use Rattle.historical_bitmap.proofs.bitmap.historical.pending.Dirty.edited_between.Goals as goal

pub returns-clause-indices : goal.returns-clause-indices
returns-clause-indices g c =
    let keys = word_keys g.row.N c.self.inside.edited c.self.inside.cache.chunk c.self.inside.cache.base c.self.inside.cache.count c.self.inside.cache.word in
    rw (sym c.self.view_is) (ap (λ found. members_between found c.args.from c.args.to) (sym keys) ∙ c.parts_between.ensures.indices)
