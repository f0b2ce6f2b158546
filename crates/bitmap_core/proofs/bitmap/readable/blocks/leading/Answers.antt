use Rattle.std.proofs.Common.{◌+◌, ◌-◌, ◌*◌, ◌∙◌, sym, arith}
use Rattle.bitmap_bytes.specs.Bits.{chunks_bit}
use Rattle.bitmap_bytes.specs.Chunk.{is_wanted}
use Rattle.bitmap_bytes.proofs.Counting.Parts.{count_range}
use Rattle.bitmap_core.proofs.Slices.{more_wanted}
use Rattle.bitmap_core.proofs.bitmap.readable.blocks.leading.Goals as goal

pub loop-size-preserved : goal.loop-size-preserved
loop-size-preserved g c =
    let loop = c.loop-size.invariant in
    let count = c.loop-size.count in
    record {
      within = omega (arith, loop.within, c.min-size-in-loop-size.ensures);
      small = omega (arith, c.min.ensures, c.min-size-in-loop-size.ensures);
      counted = more_wanted g.row.N count (count + c.loop-size.size - count) c.loop-size.size c.args.chunks.now c.args.wanted _ _ c.requires.width.positive
          (omega (arith, loop.within)) (omega arith) loop.counted c.wanted_in-more.ensures;
      few = omega (arith, loop.few);
    }

pub returns-clause-counted : goal.returns-clause-counted
returns-clause-counted g c =
    c.loop-size.invariant.counted ∙ sym (count_range (λ i. is_wanted c.args.wanted (chunks_bit g.row.N c.args.chunks.now i)) 0 (8 * g.row.N * c.loop-size.count))
