use Rattle.std.proofs.Common.{ℕ, ◌≤◌, List, ap, arith, length, refl}
use Rattle.std.proofs.lemmas.List.Filters.{length-filter_both}
use Rattle.std.specs.Prelude.{nat_le, not}
use Rattle.historical_bitmap.specs.History.{from_number}
use Rattle.historical_bitmap.proofs.History.PastStates.{snapshots_from}
use Rattle.historical_bitmap.proofs.History.KeptCommits.{kept_from, costs_from, same_length}
use Rattle.historical_bitmap.proofs.bitmap.historical.commits.BitMap+N+Clean.prune_commits_before.Goals as goal

-- at most as many commits are left
fewer : {X : Type 0} (m : ℕ) (cs : List (ℕ × X)) → length (from_number m cs) ≤ length cs
fewer m cs = omega (arith, length-filter_both (λ e. nat_le m e.0) (λ e. not (nat_le m e.0)) (λ e. refl) cs)

pub drop_before-requires : goal.drop_before-requires
drop_before-requires g c = (omega arith, c.self.invariant.1.rise)

pub invariant_of-self : goal.invariant_of-self
invariant_of-self g c = (tt, rw c.drop_before.ensures (kept_from g.row.N c.args.number c.self.inside.current c.self.inside.commits c.self.inside.last c.self.invariant.1))

pub returns-clause-value : goal.returns-clause-value
returns-clause-value g c = rw (c.drop_before.ensures, ← c.self.view_is) refl

pub returns-clause-history : goal.returns-clause-history
returns-clause-history g c = rw (c.drop_before.ensures, ← c.self.view_is) (snapshots_from g.row.N c.args.number c.self.inside.commits c.self.inside.current c.self.invariant.1.rise)

pub returns-clause-costs : goal.returns-clause-costs
returns-clause-costs g c = rw (c.drop_before.ensures, ← c.self.view_is) (costs_from c.args.number c.self.inside.commits)

pub overflow_sub-result : goal.overflow_sub-result
overflow_sub-result g c =
    omega (arith, fewer c.args.number c.self.inside.commits, ap (λ es. length es) c.drop_before.ensures, c.len-before.ensures, c.len.ensures)

pub returns-clause-count : goal.returns-clause-count
returns-clause-count g c =
    let before = same_length g.row.N c.self.inside.commits c.self.inside.current in
    let after = same_length g.row.N c.drop_before.new.commits c.self.inside.current in
    let kept = fewer c.args.number c.self.inside.commits in
    let left = ap (λ es. length es) c.drop_before.ensures in
    rw (← c.self.view_is) (omega (arith, before, after, kept, left, c.len-before.ensures, c.len.ensures))
