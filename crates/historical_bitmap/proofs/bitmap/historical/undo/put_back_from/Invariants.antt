use Rattle.std.proofs.Common.{◌≡◌, take}
use Rattle.std.specs.Prelude.{nat_le}
use Rattle.std.specs.List.{filter}
use Rattle.historical_bitmap.specs.Stored.{entry_values}
use Rattle.historical_bitmap.specs.Undo.{put_back}
use Rattle.historical_bitmap.proofs.bitmap.historical.undo.put_back_from.Given as goal

abbrev pub invariant-loop-entry : goal.invariant-loop-entry
invariant-loop-entry g l = l.bitmap ≡ put_back g.row.N l.fn.bitmap (filter (λ entry. nat_le l.from entry.0) (entry_values (take l.entry-index l.entries)))
