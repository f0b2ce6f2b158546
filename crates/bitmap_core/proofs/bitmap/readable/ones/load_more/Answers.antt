use Rattle.std.proofs.Common.{◌≡◌, ℕ, ◌+◌, ◌-◌, ◌*◌, ◌<◌, [], length, refl, sym, ◌∙◌, arith}
use Rattle.std.proofs.lemmas.Bool.{eqb-true}
use Rattle.bitmap_core.specs.Meaning.{Meaning, seen_as}
use Rattle.bitmap_core.proofs.Slices.{part_items, part_length}
use Rattle.bitmap_core.proofs.Words.Loaded.{IsFirstWanted, left_same, left_passed, left_in_place}
use Rattle.bitmap_core.proofs.Words.Scan.{used_scan, loads_fit, dropped_scan}
use Rattle.bitmap_core.proofs.bitmap.readable.ones.load_more.Goals as goal

pub refill-requires : goal.refill-requires
refill-requires g c =
    let none : length c.args.run.now ≡ 0 = eqb-true (length c.args.run.now) 0 (sym c.is_empty.ensures ∙ c.if-is_empty.true) in
    (omega (arith, c.requires.scan.lawful.width.fits), (used_scan c.args.run.now none c.requires.scan, (c.requires.used, c.requires.below)))

pub returns-then-passed-run-clause-scan : goal.returns-then-passed-run-clause-scan
returns-then-passed-run-clause-scan g c =
    dropped_scan c.requires.scan (length c.args.run.now) _ _ [] (omega (arith, c.if-passed-run.true))
    (omega (arith, c.first_wanted-passed.ensures.counted, c.if-passed-run.true)) (omega arith) (λ j h. absurd (omega arith))

pub returns-then-passed-run-clause-left : goal.returns-then-passed-run-clause-left
returns-then-passed-run-clause-left g c =
    let m : Meaning = g.B.Readable.meaning c.args.readable.now in
    let cursor = c.args.cursor.now in
    let base : ℕ = cursor.next + 64 * c.first_wanted-passed.result.0 in
    let first : IsFirstWanted m c.args.wanted cursor.next c.args.end c.first_wanted-passed.result.0 c.first_wanted-passed.result.1 c.args.run.now = record {
      within = c.first_wanted-passed.ensures.within;
      inside = c.requires.scan.inside;
      shown = c.requires.scan.bits;
      none = c.first_wanted-passed.ensures.none;
      bits = c.first_wanted-passed.ensures.bits;
    } in
    left_same (seen_as c.args.wanted m) base cursor.word base base c.args.end c.requires.used refl
    ∙ left_passed m c.args.wanted cursor.next c.args.end c.first_wanted-passed.result.0 c.first_wanted-passed.result.1 c.args.run.now first

pub first_wanted-passed-requires : goal.first_wanted-passed-requires
first_wanted-passed-requires g c = record { space = loads_fit c.requires.scan c.ranges.end.fits }

pub returns-clause-scan : goal.returns-clause-scan
returns-clause-scan g c =
    let passed : ℕ = c.first_wanted-passed.result.0 in
    let some : passed < length c.args.run.now = omega (arith, c.first_wanted-passed.ensures.within, c.if-passed-run.false) in
    dropped_scan c.requires.scan (passed + 1) _ _ _ (omega arith) (omega (arith, c.first_wanted-passed.ensures.counted))
    (omega (arith, part_length (length c.args.run.now - (passed + 1)) (passed + 1) c.args.run.now (omega arith)))
    (part_items (length c.args.run.now - (passed + 1)) (passed + 1) c.args.run.now)

pub returns-clause-left : goal.returns-clause-left
returns-clause-left g c =
    let m : Meaning = g.B.Readable.meaning c.args.readable.now in
    let cursor = c.args.cursor.now in
    let some : c.first_wanted-passed.result.0 < length c.args.run.now = omega (arith, c.first_wanted-passed.ensures.within, c.if-passed-run.false) in
    let first : IsFirstWanted m c.args.wanted cursor.next c.args.end c.first_wanted-passed.result.0 c.first_wanted-passed.result.1 c.args.run.now = record {
      within = c.first_wanted-passed.ensures.within;
      inside = c.requires.scan.inside;
      shown = c.requires.scan.bits;
      none = c.first_wanted-passed.ensures.none;
      bits = c.first_wanted-passed.ensures.bits;
    } in
    left_in_place m c.args.wanted cursor.next c.args.end c.first_wanted-passed.result.0 c.first_wanted-passed.result.1 c.args.run.now first some
