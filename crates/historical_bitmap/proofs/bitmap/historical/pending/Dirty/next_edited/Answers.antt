use Rattle.std.proofs.Common.{sym, subst}
use Rattle.chunk_map.specs.Entries.{IsNextMember}
use Rattle.historical_bitmap.proofs.EditedChunks.CachedWord.{word_keys}
use Rattle.historical_bitmap.proofs.bitmap.historical.pending.Dirty.next_edited.Goals as goal

pub returns : goal.returns
returns g c = rw (sym c.self.view_is) (subst (λ keys. IsNextMember keys c.args.from c.next_from.result) (word_keys g.row.N c.self.inside.edited c.self.inside.cache.chunk c.self.inside.cache.base c.self.inside.cache.count c.self.inside.cache.word) c.next_from.ensures)
