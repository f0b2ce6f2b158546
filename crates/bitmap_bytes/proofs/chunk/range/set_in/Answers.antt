use Rattle.bitmap_bytes.proofs.Bytes.Bits.{bit_of_ones_byte, bit_of_zero_byte}
use Rattle.bitmap_bytes.proofs.Bytes.Ranges.{chunk_inside, chunk_outside, set_in_one, set_in_more}
use Rattle.bitmap_bytes.proofs.chunk.range.set_in.Goals as goal
use Rattle.bitmap_bytes.proofs.chunk.range.set_in.Goals.{then-value, else-value}

pub returns-then-first-last-clause-inside : goal.returns-then-first-last-clause-inside
returns-then-first-last-clause-inside g c =
    let b = c.set_in_byte.ensures in
    chunk_inside g.row.N _ _ _ _ _ c.requires.width.positive
    (set_in_one g.row.N c.args.chunk.now _ _ _ _ c.told-chunk c.if-from-to.false c.requires.within c.if-first-last.true (record { inside = b.inside; outside = b.outside }))

pub returns-then-first-last-clause-outside : goal.returns-then-first-last-clause-outside
returns-then-first-last-clause-outside g c =
    let b = c.set_in_byte.ensures in
    chunk_outside g.row.N _ _ _ _ _ c.requires.width.positive
    (set_in_one g.row.N c.args.chunk.now _ _ _ _ c.told-chunk c.if-from-to.false c.requires.within c.if-first-last.true (record { inside = b.inside; outside = b.outside }))

pub returns-clause-inside : goal.returns-clause-inside
returns-clause-inside g c =
    let b = c.set_in_byte-2.ensures in
    let e = c.set_in_byte-3.ensures in
    let run = c.fill.ensures.after (λ y q. q) in
    chunk_inside g.row.N _ _ _ _ _ c.requires.width.positive
    (set_in_more g.row.N c.args.chunk.now c.fill.new.self _ _ _ _ c.if-value.fill c.args.value c.told-chunk c.if-from-to.false c.requires.within c.if-first-last.false (record { inside = b.inside; outside = b.outside }) (record { inside = e.inside; outside = e.outside })
    run (λ t s. elim c.if-value.branch [
      | then-value w ↦ rw (w.fill-is, w.if-value.true) (bit_of_ones_byte t s)
      | else-value w ↦ rw (w.if-value.false) (bit_of_zero_byte _ t w.fill-is)
    ]))

pub returns-clause-outside : goal.returns-clause-outside
returns-clause-outside g c =
    let b = c.set_in_byte-2.ensures in
    let e = c.set_in_byte-3.ensures in
    let run = c.fill.ensures.after (λ y q. q) in
    chunk_outside g.row.N _ _ _ _ _ c.requires.width.positive
    (set_in_more g.row.N c.args.chunk.now c.fill.new.self _ _ _ _ c.if-value.fill c.args.value c.told-chunk c.if-from-to.false c.requires.within c.if-first-last.false (record { inside = b.inside; outside = b.outside }) (record { inside = e.inside; outside = e.outside })
    run (λ t s. elim c.if-value.branch [
      | then-value w ↦ rw (w.fill-is, w.if-value.true) (bit_of_ones_byte t s)
      | else-value w ↦ rw (w.if-value.false) (bit_of_zero_byte _ t w.fill-is)
    ]))
