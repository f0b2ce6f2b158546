use Rattle.std.proofs.Common.{◌-◌, arith}
use Rattle.std.proofs.lemmas.Map.Entries.{length-keys_of}
use Rattle.std.proofs.lemmas.Map.Keys.{below_from_sorted}
use Rattle.std.specs.Map.{keys_of}
use Rattle.historical_bitmap.proofs.History.Positions.{number_after, number_at, number_before}
use Rattle.historical_bitmap.proofs.bitmap.historical.commit_list.first_past.Goals as goal

pub returns-then-last-number-clause-earlier : goal.returns-then-last-number-clause-earlier
returns-then-last-number-clause-earlier g c = λ i l. omega (arith, number_before c.args.commits.now.items (c.len-count.result - 1) c.index-last.result.now (omega arith) c.index-last.ensures c.requires i (omega arith))

pub returns-then-number-first-clause-later : goal.returns-then-number-first-clause-later
returns-then-number-first-clause-later g c = λ i h l. omega (arith, number_after c.args.commits.now.items 0 c.index-first.result.now (omega arith) c.index-first.ensures c.requires i (omega arith) l)

pub returns-then-commit-number-clause-earlier : goal.returns-then-commit-number-clause-earlier
returns-then-commit-number-clause-earlier g c = λ i l.
    let near = c.args.number - c.index-first.result.now.0 in
    omega (arith, number_before c.args.commits.now.items near c.index-commit.result.now (omega arith) c.index-commit.ensures c.requires i (omega arith))

pub returns-then-commit-number-clause-later : goal.returns-then-commit-number-clause-later
returns-then-commit-number-clause-later g c = λ i h l.
    let commits = c.args.commits.now.items in
    let near = c.args.number - c.index-first.result.now.0 in
    let inside = length-keys_of commits in
    omega (arith, number_at commits near c.index-commit.result.now (omega arith) c.index-commit.ensures, below_from_sorted (keys_of commits) near i 0 c.requires (omega arith) (omega (arith, inside)))
