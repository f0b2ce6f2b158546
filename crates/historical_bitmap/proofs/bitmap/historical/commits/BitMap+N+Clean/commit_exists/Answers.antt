use Rattle.std.proofs.Common.{ap, sym, ◌∙◌}
use Rattle.std.specs.Prelude.{is_some}
use Rattle.historical_bitmap.proofs.History.KeptCommits.{above_never, reserved_never, same_kept}
use Rattle.historical_bitmap.proofs.bitmap.historical.commits.BitMap+N+Clean.commit_exists.Goals as goal

pub returns-then-is_past-clause-value : goal.returns-then-is_past-clause-value
returns-then-is_past-clause-value g c =
    let above = sym c.is_past.ensures ∙ c.if-is_past.true in
    rw (← c.self.view_is) (sym (ap is_some (above_never g.row.N c.args.number c.self.inside.current c.self.inside.commits c.self.inside.last c.self.invariant.1 above)))

pub returns-then-is_past-clause-reserved : goal.returns-then-is_past-clause-reserved
returns-then-is_past-clause-reserved g c = rw (← c.self.view_is) (reserved_never g.row.N c.self.inside.current c.self.inside.commits c.self.inside.last c.self.invariant.1)

pub returns-clause-value : goal.returns-clause-value
returns-clause-value g c = rw (← c.self.view_is) (c.contains.ensures ∙ sym (same_kept g.row.N c.args.number c.self.inside.commits c.self.inside.current))

pub returns-clause-reserved : goal.returns-clause-reserved
returns-clause-reserved g c = rw (← c.self.view_is) (reserved_never g.row.N c.self.inside.current c.self.inside.commits c.self.inside.last c.self.invariant.1)
