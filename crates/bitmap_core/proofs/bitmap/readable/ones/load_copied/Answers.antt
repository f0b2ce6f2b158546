use Rattle.std.proofs.Common.{refl, arith}
use Rattle.bitmap_core.proofs.Words.Loaded.{left_loaded}
use Rattle.bitmap_core.proofs.Words.Scan.{load}
use Rattle.bitmap_core.proofs.bitmap.readable.ones.load_copied.Goals as goal

pub load_word-cursor-requires : goal.load_word-cursor-requires
load_word-cursor-requires g c =
    let s = load c.requires.scan refl c.requires.below c.ranges.end.fits in
    (omega (arith, c.requires.scan.lawful.width.fits), (c.requires.scan.lawful.width, (s.starts, (c.requires.below, s.space))))

pub returns-clause-scan : goal.returns-clause-scan
returns-clause-scan g c =
    let s = load c.requires.scan refl c.requires.below c.ranges.end.fits in
    rw c.load_word-cursor.ensures.counted (s.scan c.turn_chunk.new.chunk c.next_below-cursor.result c.turn_chunk.ensures.shown c.next_below-cursor.ensures)

pub returns-clause-left : goal.returns-clause-left
returns-clause-left g c =
    let s = load c.requires.scan refl c.requires.below c.ranges.end.fits in
    let base = c.args.cursor.now.next in
    rw c.next_below-cursor.ensures (left_loaded g.row.N (g.B.Readable.meaning c.args.readable.now) base base c.args.end c.args.wanted c.turn_chunk.new.chunk c.load_word-cursor.result
    c.requires.scan.lawful.width.positive s.starts (omega arith) c.requires.below c.requires.scan.within s.near c.turn_chunk.ensures.shown
    (record {
      inside = λ i h a. c.load_word-cursor.ensures.inside i h;
      before = λ i h a. absurd (omega arith);
      past_chunk = c.load_word-cursor.ensures.past_chunk;
      past_end = c.load_word-cursor.ensures.past_end;
    }))
