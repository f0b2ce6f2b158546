use Rattle.std.proofs.Common.{arith, subst, sym}
use Rattle.std.specs.List.Sorted.{IsStrictlySortedBy}
use Rattle.std.specs.Map.{keys_of}
use Rattle.std.specs.Ordering.{nat_cmp}
use Rattle.historical_bitmap.specs.Index.{AddsPlaces, KeepsOthers, RemovesPlaces}
use Rattle.historical_bitmap.proofs.Index.Latest.{earlier_ends, part_removed, record_added, rises_at}
use Rattle.historical_bitmap.proofs.bitmap.historical.index.add_at.Goals as goal

pub add_entries-requires : goal.add_entries-requires
add_entries-requires g c =
    let commits = c.args.commits.now.items in
    let commit = c.index-commit.result.now in (
      omega arith,
      (
        omega (arith, c.requires.width.fits),
        (
          c.requires.width,
          (
            subst (λ es. IsStrictlySortedBy nat_cmp (keys_of es)) (sym c.chunk_diffs-entries.ensures) (rises_at commits c.args.position commit c.requires.within c.index-commit.ensures c.requires.entries),
            earlier_ends commits c.args.position commit c.requires.within c.index-commit.ensures c.requires.rise c.args.index.now c.requires.index,
          ),
        ),
      ),
    )

pub returns-in_default-clause-err : goal.returns-in_default-clause-err
returns-in_default-clause-err g c =
    let commit = c.index-commit.result.now in
    part_removed c.args.commits.now.items c.args.position commit c.requires.within c.index-commit.ensures c.requires.rise c.args.index.now c.requires.index c.add_entries.new.index c.remove_entries.new.index
    (subst (λ entries. KeepsOthers commit.0 entries c.args.index.now c.add_entries.new.index) c.chunk_diffs-entries.ensures c.add_entries.ensures.others)
    (subst (λ entries. RemovesPlaces commit.0 entries c.add_entries.new.index c.remove_entries.new.index) c.chunk_diffs-entries.ensures c.remove_entries.ensures)

pub returns-clause-ok : goal.returns-clause-ok
returns-clause-ok g c =
    let commits = c.args.commits.now.items in
    let commit = c.index-commit.result.now in
    record_added commits c.args.position commit c.requires.within c.index-commit.ensures c.requires.rise c.args.index.now c.requires.index c.add_entries.new.index (rises_at commits c.args.position commit c.requires.within c.index-commit.ensures c.requires.entries)
    (subst (λ entries. AddsPlaces commit.0 entries c.args.index.now c.add_entries.new.index) c.chunk_diffs-entries.ensures c.in-Ok.ensures.ok)
