use Rattle.std.proofs.Common.{◌<◌, length, arith, sym, ◌∙◌}
use Rattle.std.proofs.lemmas.Bool.{eq-eqb}
use Rattle.std.proofs.lemmas.List.Folds.{list_any_at}
use Rattle.std.specs.Map.{keys_of}
use Rattle.std.specs.Prelude.{None, Some, nat_eq}
use Rattle.bitmap_core.specs.PrunedBits.{truncated}
use Rattle.historical_bitmap.specs.Pending.{pending_bits}
use Rattle.historical_bitmap.specs.Stored.{entry_values}
use Rattle.historical_bitmap.proofs.Changes.Prepared.{listed_at}
use Rattle.historical_bitmap.proofs.Records.EntryPasses.{key_at, keys_len}
use Rattle.historical_bitmap.proofs.bitmap.historical.prepared_changes.next_change.Goals as goal

pub changed_bytes-requires : goal.changed_bytes-requires
changed_bytes-requires g c =
    let keys = keys_of (entry_values c.args.entries.now) in
    let inside : c.loop-at.at < length keys = omega (arith, c.loop-at-test.true, keys_len c.args.entries.now) in
    let here = key_at c.args.entries.now c.loop-at.at c.index-entries-at.result c.loop-at-test.true c.index-entries-at.is in
    let within = c.requires.indices c.index-entries-at.result.0 (list_any_at (nat_eq c.index-entries-at.result.0) keys c.loop-at.at 0 inside (eq-eqb c.index-entries-at.result.0 _ (sym here))) in
    (omega arith, (omega arith, (omega (arith, c.requires.is_extended.width.fits), (c.requires.is_extended, within))))

pub returns-in-Some : goal.returns-in-Some
returns-in-Some g c =
    let inside : c.loop-at.at < length (keys_of (entry_values c.args.entries.now)) = omega (arith, c.loop-at-test.true, keys_len c.args.entries.now) in
    let here = key_at c.args.entries.now c.loop-at.at c.index-entries-at.result c.loop-at-test.true c.index-entries-at.is in
    record {
      next = c.loop-at.invariant.same ∙ listed_at g.row.N (truncated g.row.N c.args.grown.now c.args.old_len) (pending_bits g.row.N (truncated g.row.N c.args.grown.now c.args.old_len) c.args.edits.now) (keys_of (entry_values c.args.entries.now)) c.loop-at.at c.index-entries-at.result.0 (Some c.in-Some.bytes) inside here c.in-Some.ensures;
      within = omega (arith, c.loop-at-test.true);
    }

pub loop-at-preserved : goal.loop-at-preserved
loop-at-preserved g c =
    let inside : c.loop-at.at < length (keys_of (entry_values c.args.entries.now)) = omega (arith, c.loop-at-test.true, keys_len c.args.entries.now) in
    let here = key_at c.args.entries.now c.loop-at.at c.index-entries-at.result c.loop-at-test.true c.index-entries-at.is in
    record {
      same = c.loop-at.invariant.same ∙ listed_at g.row.N (truncated g.row.N c.args.grown.now c.args.old_len) (pending_bits g.row.N (truncated g.row.N c.args.grown.now c.args.old_len) c.args.edits.now) (keys_of (entry_values c.args.entries.now)) c.loop-at.at c.index-entries-at.result.0 None inside here c.in_default.ensures;
      within = omega (arith, c.loop-at-test.true);
    }
