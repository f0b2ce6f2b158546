use Rattle.std.proofs.Common.{arith, drop, subst}
use Rattle.historical_bitmap.specs.History.{RiseInNumber}
use Rattle.historical_bitmap.specs.Index.{IsIndexOf, RemovesPlaces}
use Rattle.historical_bitmap.proofs.History.Positions.{read_from}
use Rattle.historical_bitmap.proofs.Index.Updates.{first_removed}
use Rattle.historical_bitmap.proofs.bitmap.historical.index.remove_first.Goals as goal

pub returns : goal.returns
returns g c =
    let first = c.index-commit.result.now in
    let all = read_from 0 c.args.commits.now.items first (omega arith) c.index-commit.ensures in
    first_removed first (drop 1 c.args.commits.now.items) c.args.index.now c.remove_entries.new.index (subst RiseInNumber all c.requires.rise) (subst (IsIndexOf c.args.index.now) all c.requires.index)
    (subst (λ entries. RemovesPlaces first.0 entries c.args.index.now c.remove_entries.new.index) c.chunk_diffs.ensures c.remove_entries.ensures)
