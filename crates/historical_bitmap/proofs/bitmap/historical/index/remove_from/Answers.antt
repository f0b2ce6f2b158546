use Rattle.std.proofs.Common.{◌≡◌, ◌+◌, ◌-◌, arith, subst, sym, take}
use mathlib.Core.Logic.{inl, inr}
use Rattle.std.proofs.lemmas.List.{take_all}
use Rattle.historical_bitmap.specs.Index.{IsIndexOf, RemovesPlaces}
use Rattle.historical_bitmap.proofs.Index.Latest.{record_removed, up_to_first}
use Rattle.historical_bitmap.proofs.bitmap.historical.index.remove_from.Goals as goal

pub loop-count-init : goal.loop-count-init
loop-count-init g c = record {
  within = omega arith;
  end = inr (omega arith);
  index = subst (IsIndexOf c.args.index.now) (sym (take_all c.len-count.result c.args.commits.now.items (omega arith))) c.requires.index;
}

pub loop-count-preserved : goal.loop-count-preserved
loop-count-preserved g c =
    let commits = c.args.commits.now.items in
    let count = c.loop-count.count in
    let commit = c.index-commit.result.now in
    let whole : count ≡ count - 1 + 1 = omega (arith, c.loop-count-test.true) in
    record {
      within = omega (arith, c.loop-count.invariant.within);
      end = inl (omega (arith, c.loop-count-test.true));
      index =
          record_removed commits (count - 1) commit (omega (arith, c.loop-count-test.true, c.loop-count.invariant.within)) c.index-commit.ensures c.requires.rise c.loop-count.index c.remove_entries.new.index
          (subst (λ n. IsIndexOf c.loop-count.index (take n commits)) whole c.loop-count.invariant.index)
          (subst (λ entries. RemovesPlaces commit.0 entries c.loop-count.index c.remove_entries.new.index) c.chunk_diffs.ensures c.remove_entries.ensures);
    }

pub returns : goal.returns
returns g c = subst (IsIndexOf c.loop-count.index) (up_to_first c.args.commits.now.items c.args.first c.loop-count.count (omega arith) c.loop-count.invariant.end) c.loop-count.invariant.index
