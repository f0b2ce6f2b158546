use Rattle.std.proofs.Common.{◌≡◌, Some, ap, arith, refl, sym, ◌∙◌}
use Rattle.historical_bitmap.specs.History.{kept_under, snapshots}
use Rattle.historical_bitmap.proofs.History.KeptCommits.{can_undo_past, costs_rewound, found_under, history_rewound, kept_rewound}
use Rattle.historical_bitmap.proofs.bitmap.historical.commits.BitMap+N+Clean.rewind_to.Given as given
use Rattle.historical_bitmap.proofs.bitmap.historical.commits.BitMap+N+Clean.rewind_to.Goals as goal
use Rattle.historical_bitmap.proofs.bitmap.historical.commits.BitMap+N+Clean.rewind_to.Goals.{After-drop_past}

-- the bitmap that the rewind made is the one under the number
found : (g : given.Over) (c : After-drop_past g) → kept_under (snapshots g.row.N c.self.inside.commits c.self.inside.current) c.args.number ≡ Some c.rewind.new.current
found g c =
    let there = rw (← c.self.view_is) at (sym c.if-not-commit_exists.ensures.value) in
    found_under g.row.N c.args.number c.self.inside.commits c.self.inside.current c.self.invariant.1.rise there ∙ ap Some (sym c.in-Ok.ensures.ok)

pub rewind-requires : goal.rewind-requires
rewind-requires g c = (
  omega arith,
  (
    omega arith,
    (can_undo_past g.row.N c.args.number c.self.inside.commits c.self.inside.current c.self.invariant.1.rise c.self.invariant.1.undo, (rw (← c.self.view_is) at c.extent_before-len.ensures c.args.number) c.past.ensures.later),
  ),
)

pub invariant_of-result : goal.invariant_of-result
invariant_of-result g c =
    (tt, rw c.drop_past.ensures (kept_rewound g.row.N c.args.number c.self.inside.current c.rewind.new.current c.self.inside.commits c.self.inside.last c.ranges.number.fits c.self.invariant.1 (found g c)))

pub returns-clause-current : goal.returns-clause-current
returns-clause-current g c = rw (← c.self.view_is) (found g c)

pub returns-clause-history : goal.returns-clause-history
returns-clause-history g c =
    rw (c.drop_past.ensures, ← c.self.view_is) (history_rewound g.row.N c.args.number c.self.inside.current c.rewind.new.current c.self.inside.commits c.self.inside.last c.ranges.number.fits c.self.invariant.1 (found g c))

pub returns-clause-commits : goal.returns-clause-commits
returns-clause-commits g c = rw (c.drop_past.ensures, ← c.self.view_is) refl

pub returns-clause-costs : goal.returns-clause-costs
returns-clause-costs g c = rw (c.drop_past.ensures, ← c.self.view_is) (costs_rewound c.args.number c.self.inside.commits)
