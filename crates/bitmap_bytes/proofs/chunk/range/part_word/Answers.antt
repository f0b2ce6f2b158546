use Rattle.std.proofs.Common.{ℕ, ◌+◌, ◌∙◌, arith, ap}
use Rattle.bitmap_bytes.specs.Chunk.{chunk_bit}
use Rattle.bitmap_bytes.proofs.Counting.Parts.{place_inside, start_inside}
use Rattle.bitmap_bytes.proofs.chunk.range.part_word.Goals as goal

pub word_below-requires : goal.word_below-requires
word_below-requires g c =
    (omega (arith, c.requires.width.fits), (c.requires.width, (start_inside g.row.N c.args.at (omega (arith, c.requires.below, c.requires.within)), omega (arith, c.requires.below))))

pub returns : goal.returns
returns g c =
    let at = place_inside g.row.N c.args.at (omega (arith, c.requires.below, c.requires.within)) in
    let w = c.word_below.ensures in
    let b = c.high_bits.ensures in
    record {
      inside = λ i h s t.
          b.kept i h (omega arith)
          ∙ w.inside i h t (omega (arith, at, c.requires.within))
          ∙ ap (λ (x : ℕ). chunk_bit g.row.N c.args.chunk.now (x + i)) at;
      before = λ i h s. b.cut i (omega arith);
      past = λ i h s. b.kept i h (omega (arith, c.requires.below)) ∙ w.past_end i h s;
    }
