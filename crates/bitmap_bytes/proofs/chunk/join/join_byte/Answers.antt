use Rattle.std.proofs.Common.{arith}
use Rattle.bitmap_bytes.proofs.Bytes.Shifted.{joins_one, joins_two, next_byte}
use Rattle.bitmap_bytes.proofs.chunk.join.join_byte.Goals as goal

pub bounds-chunk-at-then-shift-gt0 : goal.bounds-chunk-at-then-shift-gt0
bounds-chunk-at-then-shift-gt0 g c = rw c.byte_index-at.ensures.value (next_byte g.row.N c.args.bit c.requires.width.positive c.requires.space c.if-shift-gt0.true)

pub bounds-chunk-at-then-shift-gt0-2 : goal.bounds-chunk-at-then-shift-gt0-2
bounds-chunk-at-then-shift-gt0-2 g c = rw c.byte_index-at.ensures.value (next_byte g.row.N c.args.bit c.requires.width.positive c.requires.space c.if-shift-gt0.true)

pub returns-then-shift-gt0 : goal.returns-then-shift-gt0
returns-then-shift-gt0 g c =
    rw c.byte_index-at.ensures.value (joins_two g.row.N c.args.bit c.args.byte c.args.chunk.now c.opened_byte.result c.requires.width.positive c.told-chunk c.requires.space
    (rw c.byte_index-at.ensures.value at c.opened_byte.ensures.low) c.opened_byte.ensures.high c.joined_byte.result c.if-shift-gt0.true
    c.joined_byte.ensures.low (rw c.byte_index-at.ensures.value at c.joined_byte.ensures.high))

pub returns-else-shift-gt0 : goal.returns-else-shift-gt0
returns-else-shift-gt0 g c =
    rw c.byte_index-at.ensures.value (joins_one g.row.N c.args.bit c.args.byte c.args.chunk.now c.opened_byte.result c.requires.width.positive c.told-chunk c.requires.space
    (rw c.byte_index-at.ensures.value at c.opened_byte.ensures.low) c.opened_byte.ensures.high (omega (arith, c.if-shift-gt0.false)))
