use Rattle.std.proofs.Common.{arith, drop}
use Rattle.std.proofs.lemmas.List.{length-drop}
use Rattle.std.specs.Map.{keys_of}
use Rattle.bitmap_core.specs.PrunedBits.{truncated}
use Rattle.historical_bitmap.specs.Pending.{pending_bits}
use Rattle.historical_bitmap.specs.Stored.{entry_values}
use Rattle.historical_bitmap.proofs.Changes.Prepared.{listed_length}
use Rattle.historical_bitmap.proofs.Records.EntryPasses.{keys_len}
use Rattle.historical_bitmap.proofs.bitmap.historical.prepared_changes.PreparedChangesIterator.size_hint.Goals as goal

pub returns-clause-upper : goal.returns-clause-upper
returns-clause-upper g c =
    let old = truncated g.row.N c.self.inside.grown.now c.self.inside.old_len in
    let keys = keys_of (entry_values c.self.inside.entries.now) in
    let most = listed_length g.row.N old (pending_bits g.row.N old c.self.inside.edits.now) (drop c.self.inside.at keys) in
    (tt, rw (← c.self.view_is) (omega (arith, most, length-drop c.self.inside.at keys, keys_len c.self.inside.entries.now)))
