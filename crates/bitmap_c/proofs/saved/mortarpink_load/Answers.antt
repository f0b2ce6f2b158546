use Rattle.std.proofs.Common.{subst}
use Rattle.commit_log.specs.Reading.{Ranges, ranges}
use Rattle.bitmap_c.specs.Saved.{Loads, ranges_between}
use Rattle.bitmap_c.proofs.Ranges.{same_ranges}
use Rattle.bitmap_c.proofs.saved.mortarpink_load.Goals as goal

pub returns : goal.returns
returns c =
    let a = c.args in
    let new = c.load_into.new in
    let same = same_ranges (ranges c.between-bits.result c.between-commits.result) (ranges_between a.least_bits a.most_bits a.least_commits a.most_commits)
    c.between-bits.ensures c.between-commits.ensures in
    record {
      loaded = subst (λ (r : Ranges). Loads a.bitmap.now.value a.width r a.bytes.now c.load_into.result a.used.now new.used new.bitmap.value) same
          c.load_into.ensures;
    }
