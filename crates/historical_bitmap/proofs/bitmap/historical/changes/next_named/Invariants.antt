use Rattle.historical_bitmap.specs.Compared.{between_numbers}
use Rattle.historical_bitmap.proofs.Changes.Next.{SearchesOn}
use Rattle.historical_bitmap.proofs.History.Positions.{from_to}
use Rattle.historical_bitmap.proofs.bitmap.historical.changes.next_named.Given as goal

abbrev pub invariant-loop-position : goal.invariant-loop-position
invariant-loop-position g l = SearchesOn (between_numbers l.from l.to l.commits) (from_to l.position l.position-end l.commits) l.first l.next
