use Rattle.std.proofs.Common.{◌+◌, ◌-◌, ◌/◌, ◌<◌, ◌≤◌, length, get_or, arith, subst}
use Rattle.std.specs.Map.{keys_of}
use Rattle.std.specs.Prelude.{Some}
use Rattle.chunk_map.specs.Entries.{IsNextMember}
use Rattle.historical_bitmap.specs.Stored.{entry_values}
use Rattle.historical_bitmap.proofs.Records.EntryPasses.{key_after, key_at, key_before, keys_len}
use Rattle.historical_bitmap.proofs.Changes.Next.{next_at, next_none}
use Rattle.historical_bitmap.proofs.bitmap.historical.record.next_entry.Goals as goal

pub loop-start-preserved-then-entry-from : goal.loop-start-preserved-then-entry-from
loop-start-preserved-then-entry-from g c =
    let inside : c.loop-start.start + (c.loop-start.end - c.loop-start.start) / 2 < length c.args.entries.now = omega (arith, c.loop-start-test.true, c.loop-start.invariant.within) in
    record {
      order = omega (arith, c.loop-start-test.true);
      within = c.loop-start.invariant.within;
      less = λ j h. omega (arith, c.if-entry-from.true, key_before c.args.entries.now _ c.index-entries-middle.result inside c.index-entries-middle.is c.requires j (omega (arith, h)));
      more = c.loop-start.invariant.more;
    }

pub loop-start-preserved : goal.loop-start-preserved
loop-start-preserved g c =
    let inside : c.loop-start.start + (c.loop-start.end - c.loop-start.start) / 2 < length c.args.entries.now = omega (arith, c.loop-start-test.true, c.loop-start.invariant.within) in
    record {
      order = omega (arith, c.loop-start-test.true);
      within = omega (arith, c.loop-start-test.true, c.loop-start.invariant.within);
      less = c.loop-start.invariant.less;
      more = λ j h l. omega (arith, c.if-entry-from.false, key_after c.args.entries.now _ c.index-entries-middle.result inside c.index-entries-middle.is c.requires j h l);
    }

pub returns-then-start-entries : goal.returns-then-start-entries
returns-then-start-entries g c =
    let here = key_at c.args.entries.now c.loop-start.start c.index-entries-start.result c.if-start-entries.true c.index-entries-start.is in
    let low : c.args.from ≤ get_or (keys_of (entry_values c.args.entries.now)) c.loop-start.start 0 = c.loop-start.invariant.more c.loop-start.start (omega (arith, c.loop-start-test.false)) c.if-start-entries.true in
    subst (λ i. IsNextMember (keys_of (entry_values c.args.entries.now)) c.args.from (Some i)) here
    (next_at (keys_of (entry_values c.args.entries.now)) c.loop-start.start c.args.from c.requires (omega (arith, keys_len c.args.entries.now, c.if-start-entries.true)) c.loop-start.invariant.less low)

pub returns : goal.returns
returns g c = next_none (keys_of (entry_values c.args.entries.now)) c.args.from (λ j l. c.loop-start.invariant.less j (omega (arith, l, keys_len c.args.entries.now, c.if-start-entries.false)))
