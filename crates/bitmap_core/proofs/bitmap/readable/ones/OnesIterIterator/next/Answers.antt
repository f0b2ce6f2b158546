use Rattle.std.proofs.Common.{◌≡◌, ℕ, ◌+◌, ◌≤◌, ◌∷◌, ◌∙◌, length, refl, ap, arith}
use Rattle.bitmap_core.specs.Meaning.{Meaning, Scan, left_from, seen_as, words_between}
use Rattle.bitmap_core.proofs.Words.Loaded.{IsLowestTaken, left_taken}
use Rattle.bitmap_core.proofs.bitmap.readable.ones.OnesIterIterator.next.Goals as goal
use Rattle.bitmap_core.proofs.bitmap.readable.ones.OnesIterIterator.next.Goals.{then-self-eq0+else-self-eq0-2, else-self-eq0}

pub returns-clause-steps : goal.returns-clause-steps
returns-clause-steps g c =
    let old = c.self.inside in
    let new = c.if-self-eq0.self-inside in
    let m : Meaning = seen_as new.wanted (g.B.Readable.meaning new.readable.now) in
    let before = left_from (seen_as old.wanted (g.B.Readable.meaning old.readable.now)) old.cursor.base old.cursor.word old.cursor.next old.end in
    let e = c.take_lowest-place.ensures in
    let taken : IsLowestTaken new.cursor.word c.take_lowest-place.new.word c.take_lowest-place.result =
    record { within = e.within; set = e.set; lowest = e.lowest; cleared = e.cleared; others = e.others } in
    let left = ap (λ (s : Scan). s.left) c.self.view_is in
    let loads = ap (λ (s : Scan). s.loads) c.self.view_is in
    let words = ap (λ (s : Scan). s.words) c.self.view_is in
    let same : left_from m new.cursor.base new.cursor.word new.cursor.next new.end ≡ before = elim c.if-self-eq0.branch [
      | then-self-eq0+else-self-eq0-2 w ↦ rw w.self-inside-is w.advance-self-inside.ensures.left
      | else-self-eq0 w ↦ rw w.self-inside-is refl
    ] in
    let range : words_between g.row.N new.cursor.first new.end ≡ words_between g.row.N old.cursor.first old.end = elim c.if-self-eq0.branch [
      | then-self-eq0+else-self-eq0-2 w ↦ rw w.self-inside-is (ap (λ (k : ℕ). words_between g.row.N k old.end) w.advance-self-inside.ensures.first)
      | else-self-eq0 w ↦ rw w.self-inside-is refl
    ] in
    let grows : old.cursor.loads ≤ new.cursor.loads = elim c.if-self-eq0.branch [
      | then-self-eq0+else-self-eq0-2 w ↦ rw w.self-inside-is w.advance-self-inside.ensures.counted
      | else-self-eq0 w ↦ rw w.self-inside-is (omega arith)
    ] in
    let reached : new.cursor.loads + words_between g.row.N new.cursor.next new.end ≤ words_between g.row.N new.cursor.first new.end = elim c.if-self-eq0.branch [
      | then-self-eq0+else-self-eq0-2 w ↦ rw w.self-inside-is w.advance-self-inside.ensures.scan.counted
      | else-self-eq0 w ↦ rw w.self-inside-is c.self.invariant.scan.counted
    ] in
    record {
      yields = left_taken new.cursor.word c.take_lowest-place.new.word c.take_lowest-place.result taken m new.cursor.base new.cursor.next new.end before c.args.self.now.left same left;
      grows = omega (arith, loads, grows);
      range = range ∙ words;
      within = omega (arith, reached, range, words);
      reached = omega (arith, reached, range, words);
    }

pub returns-clause-goes : goal.returns-clause-goes
returns-clause-goes g c =
    let old = c.self.inside in
    let new = c.if-self-eq0.self-inside in
    let m : Meaning = seen_as new.wanted (g.B.Readable.meaning new.readable.now) in
    let before = left_from (seen_as old.wanted (g.B.Readable.meaning old.readable.now)) old.cursor.base old.cursor.word old.cursor.next old.end in
    let e = c.take_lowest-place.ensures in
    let taken : IsLowestTaken new.cursor.word c.take_lowest-place.new.word c.take_lowest-place.result =
    record { within = e.within; set = e.set; lowest = e.lowest; cleared = e.cleared; others = e.others } in
    let left = ap (λ (s : Scan). s.left) c.self.view_is in
    let same : left_from m new.cursor.base new.cursor.word new.cursor.next new.end ≡ before = elim c.if-self-eq0.branch [
      | then-self-eq0+else-self-eq0-2 w ↦ rw w.self-inside-is w.advance-self-inside.ensures.left
      | else-self-eq0 w ↦ rw w.self-inside-is refl
    ] in
    let first : c.args.self.now.left ≡ (new.cursor.base + c.take_lowest-place.result) ∷ left_from m new.cursor.base c.take_lowest-place.new.word new.cursor.next new.end =
    left_taken new.cursor.word c.take_lowest-place.new.word c.take_lowest-place.result taken m new.cursor.base new.cursor.next new.end before c.args.self.now.left same left in
    let fewer = ap length first in
    record { on = λ _. (tt, tt, omega (arith, fewer)); keeps = tt; rests = λ _. tt }
