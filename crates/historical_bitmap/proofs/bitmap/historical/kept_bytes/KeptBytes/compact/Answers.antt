use Rattle.std.proofs.Common.{ℕ, List, ap, ◌∙◌}
use Rattle.chunk_map.specs.Entries.{entries_of}
use Rattle.historical_bitmap.proofs.bitmap.historical.kept_bytes.KeptBytes.compact.Goals as goal

pub returns-in-Ok : goal.returns-in-Ok
returns-in-Ok g c = ap (λ (chunks : List ℕ). entries_of chunks c.self.inside.rows.items) c.in-Ok.ensures ∙ c.self.view_is
