use Rattle.std.proofs.Common.{ℕ, Result, Err, sym, subst, ◌∙◌}
use Rattle.commit_log.specs.declared.recovery.RecoverError.{RecoverError}
use Rattle.bitmap_c.specs.declared.any.AnySession.{AnySession}
use Rattle.bitmap_c.specs.Recovered.{ReadsLog, RecoversBytes, as_logged}
use Rattle.bitmap_c.proofs.EmptyHandles.{into_empty}
use Rattle.bitmap_c.proofs.Recoveries.{not_recovered}
use Rattle.bitmap_c.proofs.recovery.mortarpink_recover.Goals as goal

pub returns-in-Some-Err : goal.returns-in-Some-Err
returns-in-Some-Err c =
    let a = c.args in
    let e = c.in-Some-Err.error in
    let new = c.is_full.new.bitmap.value in
    let read : ReadsLog a.width a.bytes.now (Err e) =
    subst (λ (x : Result (AnySession × ℕ) RecoverError). ReadsLog a.width a.bytes.now (as_logged x)) c.in-Some-Err.field-0-is c.in-Some-Err.ensures.read in
    rw (c.report_error.ensures.status, c.report_error.ensures.good)
    (record {
      recovered = into_empty a.bitmap.now.value a.width _ a.good.now _ new (RecoversBytes a.width a.bytes.now _ a.good.now _ new)
          (sym c.is_full.ensures.full ∙ c.if-is_full.false)
          (sym c.in-Some-Err.ensures.offered)
          (λ none. not_recovered a.width a.bytes.now e a.good.now new read (c.is_full.ensures.unchanged ∙ none));
    })
