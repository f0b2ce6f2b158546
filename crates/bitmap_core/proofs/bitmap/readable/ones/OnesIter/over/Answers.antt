use Rattle.std.proofs.Common.{ℕ, ◌-◌, ◌*◌, ◌/◌, min, max, sym, ◌∙◌, ap, arith, refl}
use Rattle.bitmap_bytes.specs.Words.{word_start}
use Rattle.bitmap_core.specs.Meaning.{Meaning, ShowsChunk, seen_as}
use Rattle.bitmap_core.proofs.Lists.SetPositions.{ones_between-none, ones_between-at, ones_fit}
use Rattle.bitmap_bytes.proofs.Words.Starts.{start_of, start_near, start_chunk, retained_start}
use Rattle.bitmap_core.proofs.Words.Loaded.{IsMasked, masked_cut, empty_cut, left_none, left_loaded, first_loaded}
use Rattle.bitmap_core.proofs.Words.Runs.{scan_runs}
use Rattle.bitmap_core.proofs.Words.Scan.{copied_scan, empty_scan, words_after}
use Rattle.bitmap_core.proofs.bitmap.readable.ones.OnesIter.over.Goals as goal
use Rattle.bitmap_core.proofs.bitmap.readable.ones.OnesIter.over.Given.{Over}
use Rattle.bitmap_core.proofs.bitmap.readable.ones.OnesIter.over.Goals.{After-next_below}

pub invariant_of-result : goal.invariant_of-result
invariant_of-result g c = record {
  scan = empty_scan g.row.N (g.B.Readable.meaning c.args.readable.now) c.min-end.result _ _ c.max-position.result c.requires.lawful (omega (arith, c.requires.len)) refl
      (omega (arith, c.if-position-end.true));
  cut = empty_cut c.min-end.result 0 c.min-end.result refl;
}

pub returns-then-position-end-clause-positions : goal.returns-then-position-end-clause-positions
returns-then-position-end-clause-positions g c =
    let m : Meaning = seen_as c.args.wanted (g.B.Readable.meaning c.args.readable.now) in
    left_none m c.min-end.result 0 c.min-end.result c.min-end.result refl (omega arith)
    ∙ sym (ones_between-none m.bit (max c.args.range.start (8 * g.row.N * m.pruned)) (min c.args.range.end m.len)
    (omega (arith, c.if-position-end.true, c.max-position.ensures, c.min-end.ensures, c.pruned_bits.ensures, c.requires.len)))

pub load_word-word-requires : goal.load_word-word-requires
load_word-word-requires g c =
    let p = c.requires.lawful.width.positive in
    let below = c.if-position-end.false in (
      omega arith,
      (c.requires.lawful.width, rw c.word_base-base.ensures (start_of g.row.N c.max-position.result p, (omega (arith, below), omega arith))),
    )

masked : (g : Over) (c : After-next_below g)
    → IsMasked c.load_word-word.result c.high_bits.result (c.max-position.result - word_start g.row.N c.max-position.result)
masked g c = record { kept = rw c.word_base-base.ensures at c.high_bits.ensures.kept; cut = rw c.word_base-base.ensures at c.high_bits.ensures.cut }

-- the first chunk is that of the position
shown : (g : Over) (c : After-next_below g) →
    ShowsChunk g.row.N (g.B.Readable.meaning c.args.readable.now) (word_start g.row.N c.max-position.result / (8 * g.row.N)) c.get_chunk-chunk.result
shown g c =
    rw (start_chunk g.row.N c.max-position.result c.requires.lawful.width.positive) (rw c.chunk_index.ensures at c.get_chunk-chunk.ensures)

pub invariant_of-result-2 : goal.invariant_of-result-2
invariant_of-result-2 g c =
    let m : Meaning = g.B.Readable.meaning c.args.readable.now in
    let p = c.requires.lawful.width.positive in
    let next = rw c.word_base-base.ensures at c.next_below.ensures in
    rw (c.word_base-base.ensures, c.load_word-word.ensures.counted) (record {
      scan = copied_scan g.row.N m (word_start g.row.N c.max-position.result) c.next_below.result c.min-end.result _ c.get_chunk-chunk.result 1 c.max-position.result
          c.requires.lawful (omega (arith, c.requires.len)) refl (start_of g.row.N c.max-position.result p) (omega (arith, c.if-position-end.false))
          (retained_start g.row.N m.pruned c.max-position.result p (omega (arith, c.pruned_bits.ensures))) next (shown g c)
          (words_after g.row.N c.max-position.result _ c.next_below.result c.min-end.result p c.if-position-end.false refl next)
          (omega arith);
      cut = masked_cut _ _ _ _ _ (masked g c) (rw c.word_base-base.ensures at c.load_word-word.ensures.past_end);
    })

pub returns-clause-positions : goal.returns-clause-positions
returns-clause-positions g c =
    let m : Meaning = g.B.Readable.meaning c.args.readable.now in
    let p = c.requires.lawful.width.positive in
    rw (c.next_below.ensures, c.word_base-base.ensures) (left_loaded _ m (word_start _ _) c.max-position.result c.min-end.result c.args.wanted c.get_chunk-chunk.result c.high_bits.result
    p (start_of _ _ p) (omega arith) c.if-position-end.false (omega (arith, c.requires.len)) (start_near _ _ p) (shown g c)
    (first_loaded g.row.N c.max-position.result c.min-end.result c.args.wanted c.get_chunk-chunk.result c.load_word-word.result c.high_bits.result p
    (rw c.word_base-base.ensures at c.load_word-word.ensures.inside) (rw c.word_base-base.ensures at c.load_word-word.ensures.past_chunk)
    (rw c.word_base-base.ensures at c.load_word-word.ensures.past_end) (masked g c)))
    ∙ ones_between-at (seen_as c.args.wanted m).bit c.max-position.result (max c.args.range.start (8 * g.row.N * m.pruned)) c.min-end.result (min c.args.range.end m.len)
    (c.max-position.ensures ∙ ap (λ (k : ℕ). max c.args.range.start k) c.pruned_bits.ensures)
    (c.min-end.ensures ∙ ap (λ (k : ℕ). min c.args.range.end k) c.requires.len)

pub returns-clause-loads : goal.returns-clause-loads
returns-clause-loads g c =
    let next = rw c.word_base-base.ensures at c.next_below.ensures in
    rw c.load_word-word.ensures.counted (omega (
      arith,
      words_after g.row.N c.max-position.result _ c.next_below.result c.min-end.result c.requires.lawful.width.positive c.if-position-end.false refl next,
    ))

pub returns-then-position-end-clause-bound : goal.returns-then-position-end-clause-bound
returns-then-position-end-clause-bound g c =
    rw (returns-then-position-end-clause-positions g c) (ones_fit _ _ c.args.range.start c.args.range.end c.requires.lawful.len_fits)

pub returns-clause-bound : goal.returns-clause-bound
returns-clause-bound g c =
    rw (returns-clause-positions g c) (ones_fit _ _ c.args.range.start c.args.range.end c.requires.lawful.len_fits)

pub returns-then-position-end-clause-runs : goal.returns-then-position-end-clause-runs
returns-then-position-end-clause-runs g c = scan_runs

pub returns-clause-runs : goal.returns-clause-runs
returns-clause-runs g c = scan_runs
