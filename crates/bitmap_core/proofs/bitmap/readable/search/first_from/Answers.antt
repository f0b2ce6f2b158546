use Rattle.std.proofs.Common.{◌≡◌, ◌+◌, ◌-◌, ◌*◌, ◌∙◌, max, min, sym, ap, arith}
use Rattle.std.specs.List.{slice_get}
use Rattle.std.proofs.Math.Nat.{mul-le-mul_left}
use Rattle.bitmap_bytes.proofs.Counting.Ones.{ones_from}
use Rattle.bitmap_core.specs.Meaning.{Meaning, seen_as}
use Rattle.bitmap_core.proofs.Searches.{IsTurn, count_more, nth_more, get_nth, get_none}
use Rattle.bitmap_core.proofs.Slices.{first_more}
use Rattle.bitmap_core.proofs.Lists.SetPositions.{ones_between-at}
use Rattle.bitmap_core.proofs.bitmap.readable.search.first_from.Goals as goal

pub returns-in-Some : goal.returns-in-Some
returns-in-Some g c =
    let m : Meaning = seen_as c.args.wanted (g.B.Readable.meaning c.args.readable.now) in
    let turn : IsTurn g.row.N m c.max-first.result c.loop-at.at c.args.len c.min-step.result c.chunk_seen_as-chunk.result =
    record {
      positive = c.requires.lawful.width.positive;
      low = c.loop-at.invariant.low;
      below = c.loop-at-test.true;
      within = omega (arith, c.requires.len);
      step_is = c.min-step.ensures;
      shown = rw c.chunk_index.ensures at c.chunk_seen_as-chunk.ensures;
    } in
    sym (get_nth m.bit c.max-first.result c.args.len 0 _ (nth_more g.row.N m _ _ _ _ _ turn 0 0 c.in-Some.bit (omega (arith, c.loop-at.invariant.none)) c.in-Some.ensures))
    ∙ ap (λ xs. slice_get xs 0) (ones_between-at m.bit c.max-first.result (max c.args.from (8 * g.row.N * m.pruned)) c.args.len (min m.len m.len)
    (omega (arith, c.max-first.ensures, c.pruned_bits.ensures)) (omega (arith, c.requires.len)))

pub loop-at-preserved : goal.loop-at-preserved
loop-at-preserved g c =
    let seen : Meaning = g.B.Readable.meaning c.args.readable.now in
    let m : Meaning = seen_as c.args.wanted seen in
    let loop = c.loop-at.invariant in
    let turn : IsTurn g.row.N m c.max-first.result c.loop-at.at c.args.len c.min-step.result c.chunk_seen_as-chunk.result =
    record {
      positive = c.requires.lawful.width.positive;
      low = loop.low;
      below = c.loop-at-test.true;
      within = omega (arith, c.requires.len);
      step_is = c.min-step.ensures;
      shown = rw c.chunk_index.ensures at c.chunk_seen_as-chunk.ensures;
    } in
    let run = c.slice_from.ensures in
    let skipped = c.leading-skipped.ensures in
    record {
      low = omega (arith, loop.low);
      high = omega (arith, loop.high, c.min-step.ensures, c.loop-at-test.true, run.within, mul-le-mul_left (8 * g.row.N) skipped.within);
      none =
          omega (
            arith,
            loop.none,
            count_more g.row.N m _ _ _ _ _ turn 0 (omega (arith, c.in_default.ensures)),
            skipped.few,
            first_more g.row.N seen c.args.wanted c.max-first.result (c.loop-at.at + c.min-step.result) _ _ _ (omega (arith, loop.low)) skipped.within run.bits skipped.counted,
          );
    }

pub returns : goal.returns
returns g c =
    let m : Meaning = seen_as c.args.wanted (g.B.Readable.meaning c.args.readable.now) in
    let loop = c.loop-at.invariant in
    let d : c.loop-at.at - c.max-first.result ≡ c.args.len - c.max-first.result = omega (arith, loop.low, loop.high, c.loop-at-test.false) in
    let e = ap (ones_from m.bit c.max-first.result) d in
    sym (get_none m.bit c.max-first.result c.args.len 0 (omega (arith, loop.none, e)))
    ∙ ap (λ xs. slice_get xs 0) (ones_between-at m.bit c.max-first.result (max c.args.from (8 * g.row.N * m.pruned)) c.args.len (min m.len m.len)
    (omega (arith, c.max-first.ensures, c.pruned_bits.ensures)) (omega (arith, c.requires.len)))
