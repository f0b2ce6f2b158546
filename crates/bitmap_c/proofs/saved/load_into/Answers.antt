use Rattle.std.proofs.Common.{ℕ, Result, Err, sym, subst, ◌∙◌}
use Rattle.commit_log.specs.Reading.{ranges}
use Rattle.commit_log.specs.declared.reading.HistoryError.{HistoryError}
use Rattle.bitmap_c.specs.declared.any.AnySession.{AnySession}
use Rattle.bitmap_c.specs.Saved.{Loads, LoadsBytes, ReadsHistory, as_machine}
use Rattle.bitmap_c.proofs.EmptyHandles.{into_empty}
use Rattle.bitmap_c.proofs.Histories.{not_loaded}
use Rattle.bitmap_c.proofs.saved.load_into.Goals as goal

pub returns-in-Some-Err : goal.returns-in-Some-Err
returns-in-Some-Err c =
    let a = c.args in
    let r = ranges a.bits.now a.commits.now in
    let e = c.in-Some-Err.error in
    let read : ReadsHistory a.size r a.bytes.now (Err e) =
    subst (λ (x : Result (AnySession × ℕ) HistoryError). ReadsHistory a.size r a.bytes.now (as_machine x)) c.in-Some-Err.field-0-is c.in-Some-Err.ensures.read in
    subst (λ (status : ℕ). Loads a.bitmap.now.value a.size r a.bytes.now status a.used.now a.used.now c.is_full.new.bitmap.value) (sym c.history_status.ensures)
    (into_empty a.bitmap.now.value a.size _ a.used.now a.used.now c.is_full.new.bitmap.value (LoadsBytes a.size r a.bytes.now _ a.used.now a.used.now c.is_full.new.bitmap.value)
    (sym c.is_full.ensures.full ∙ c.if-is_full.false)
    (sym c.in-Some-Err.ensures.offered)
    (λ none. not_loaded a.size r a.bytes.now e a.used.now c.is_full.new.bitmap.value read (c.is_full.ensures.unchanged ∙ none)))
