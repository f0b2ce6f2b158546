use Rattle.std.proofs.Common.{◌-◌, ◌*◌, sym, arith}
use Rattle.bitmap_core.specs.Meaning.{seen_as}
use Rattle.bitmap_core.proofs.Searches.{none_below, found_below, base_retained, get_last, last_none}
use Rattle.bitmap_core.proofs.Slices.{none_from_chunks, start_aligned}
use Rattle.bitmap_core.proofs.bitmap.readable.search.last_below.Goals as goal

pub returns-in-Some : goal.returns-in-Some
returns-in-Some g c =
    let m = g.B.Readable.meaning c.args.readable.now in
    let p = c.requires.lawful.width.positive in
    let loop = c.loop-top.invariant in
    let some = c.loop-top-test.true in
    let shown = rw c.chunk_index.ensures at c.get_chunk-chunk.ensures in
    let low = base_retained g.row.N m c.args.wanted c.loop-top.top c.args.end c.get_chunk-chunk.result p (omega arith) loop.high c.requires.within shown loop.none
    (omega (arith, c.pruned_bits-first.ensures)) in
    sym (get_last (seen_as c.args.wanted m).bit _ c.args.end _ (omega (arith, low))
    (found_below g.row.N m c.args.wanted c.loop-top.top c.args.end c.get_chunk-chunk.result p (omega arith) loop.high c.requires.within shown loop.none
    c.in-Some.bit c.in-Some.ensures))

pub slice_below-requires : goal.slice_below-requires
slice_below-requires g c =
    let m = g.B.Readable.meaning c.args.readable.now in
    let p = c.requires.lawful.width.positive in
    let loop = c.loop-top.invariant in
    let some = c.loop-top-test.true in
    let shown = rw c.chunk_index.ensures at c.get_chunk-chunk.ensures in
    let low = base_retained g.row.N m c.args.wanted c.loop-top.top c.args.end c.get_chunk-chunk.result p (omega arith) loop.high c.requires.within shown loop.none
    (omega (arith, c.pruned_bits-first.ensures)) in (
      omega (arith, c.requires.lawful.width.fits),
      (
        c.requires.lawful,
        (
          c.pruned_bits-first.ensures,
          (
            omega (arith, low, c.pruned_bits-first.ensures),
            (start_aligned (8 * g.row.N) (c.loop-top.top - 1), omega (arith, loop.high, c.requires.within)),
          ),
        ),
      ),
    )

pub loop-top-preserved : goal.loop-top-preserved
loop-top-preserved g c =
    let m = g.B.Readable.meaning c.args.readable.now in
    let p = c.requires.lawful.width.positive in
    let loop = c.loop-top.invariant in
    let some = c.loop-top-test.true in
    let shown = rw c.chunk_index.ensures at c.get_chunk-chunk.ensures in
    let run = c.slice_below.ensures in
    let skipped = c.trailing.ensures in
    record {
      high = omega (arith, loop.high);
      none = none_from_chunks g.row.N m c.args.wanted _ c.args.end _ _ skipped.within (omega (arith, run.within)) run.bits skipped.none
          (none_below g.row.N m c.args.wanted c.loop-top.top c.args.end c.get_chunk-chunk.result p (omega arith) loop.high c.requires.within shown loop.none
          c.in_default.ensures);
    }

pub returns : goal.returns
returns g c =
    let m = g.B.Readable.meaning c.args.readable.now in
    sym (last_none (seen_as c.args.wanted m).bit _ c.args.end c.loop-top.top (omega (arith, c.pruned_bits-first.ensures, c.loop-top-test.false)) c.loop-top.invariant.none)
