use Rattle.std.proofs.Common.{◌+◌, ◌-◌, ◌/◌, ◌<◌, length, ap, arith, sym, ◌∙◌}
use Rattle.std.specs.Prelude.{nat_eq}
use Rattle.std.specs.Map.{lookup}
use Rattle.historical_bitmap.specs.Stored.{entry_values}
use Rattle.historical_bitmap.proofs.Records.EntryPasses.{found_at, key_before, key_after, lookup_between, values_len}
use Rattle.historical_bitmap.proofs.bitmap.historical.record.find.Goals as goal

pub returns-then-entry-chunk : goal.returns-then-entry-chunk
returns-then-entry-chunk g c =
    let inside : c.loop-start.start + (c.loop-start.end - c.loop-start.start) / 2 < length c.args.entries.now = omega (arith, c.loop-start-test.true, c.loop-start.invariant.within) in
    sym (ap (λ q. lookup (nat_eq q) (entry_values c.args.entries.now)) (sym c.if-entry-chunk.true) ∙ found_at c.args.entries.now _ c.index-entries-middle.result inside c.index-entries-middle.is c.requires)

pub loop-start-preserved-then-entry-chunk-2 : goal.loop-start-preserved-then-entry-chunk-2
loop-start-preserved-then-entry-chunk-2 g c =
    let inside : c.loop-start.start + (c.loop-start.end - c.loop-start.start) / 2 < length c.args.entries.now = omega (arith, c.loop-start-test.true, c.loop-start.invariant.within) in
    record {
      within = c.loop-start.invariant.within;
      less = λ j h. omega (arith, c.if-entry-chunk-2.true, key_before c.args.entries.now _ c.index-entries-middle.result inside c.index-entries-middle.is c.requires j (omega (arith, h)));
      more = c.loop-start.invariant.more;
    }

pub loop-start-preserved : goal.loop-start-preserved
loop-start-preserved g c =
    let inside : c.loop-start.start + (c.loop-start.end - c.loop-start.start) / 2 < length c.args.entries.now = omega (arith, c.loop-start-test.true, c.loop-start.invariant.within) in
    record {
      within = omega (arith, c.loop-start-test.true, c.loop-start.invariant.within);
      less = c.loop-start.invariant.less;
      more = λ j h l. omega (arith, c.if-entry-chunk.false, c.if-entry-chunk-2.false, key_after c.args.entries.now _ c.index-entries-middle.result inside c.index-entries-middle.is c.requires j h l);
    }

pub returns : goal.returns
returns g c = sym (lookup_between c.args.chunk c.loop-start.start (entry_values c.args.entries.now) c.loop-start.invariant.less (λ j h l. c.loop-start.invariant.more j (omega (arith, h, c.loop-start-test.false)) (omega (arith, l, values_len c.args.entries.now))))
