use Rattle.std.proofs.Common.{◌≡◌, drop, sym}
use Rattle.historical_bitmap.specs.History.{past_number}
use Rattle.historical_bitmap.proofs.History.KeptCommits.{found_under}
use Rattle.historical_bitmap.proofs.bitmap.historical.at.BitMap+N+Clean.at.Goals as goal

pub invariant_of-result : goal.invariant_of-result
invariant_of-result g c =
    let later : drop c.past-past.result c.args.self.now.commits ≡ past_number c.args.number c.args.self.now.commits = rw (← c.self.view_is) c.past-past.ensures.later in
    (c.extent_before-len.ensures c.args.number later, later)

pub returns-clause-value : goal.returns-clause-value
returns-clause-value g c =
    let there = rw (← c.self.view_is) at (sym c.if-not-commit_exists.ensures.value) in
    rw (← c.self.view_is) (sym (found_under g.row.N c.args.number c.self.inside.commits c.self.inside.current c.self.invariant.1.rise there))
