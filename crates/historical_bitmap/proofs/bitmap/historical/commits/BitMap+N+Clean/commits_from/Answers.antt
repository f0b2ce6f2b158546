use Rattle.std.proofs.Common.{ap, sym, ◌∙◌}
use Rattle.std.specs.Map.{keys_of}
use Rattle.historical_bitmap.specs.History.{at_least}
use Rattle.historical_bitmap.proofs.History.PastStates.{snapshots_numbers}
use Rattle.historical_bitmap.proofs.History.Positions.{numbers_from}
use Rattle.historical_bitmap.proofs.bitmap.historical.commits.BitMap+N+Clean.commits_from.Goals as goal

pub returns-clause-items : goal.returns-clause-items
returns-clause-items g c =
    rw (← c.self.view_is)
    (ap (λ es. keys_of es) c.iter_from.ensures
    ∙ (numbers_from c.args.number c.self.inside.commits
    ∙ ap (λ numbers. at_least c.args.number numbers) (sym (snapshots_numbers g.row.N c.self.inside.commits c.self.inside.current))))

pub returns-clause-ascending : goal.returns-clause-ascending
returns-clause-ascending g c = rw (← c.self.view_is, snapshots_numbers g.row.N c.self.inside.commits c.self.inside.current) c.self.invariant.1.rise
