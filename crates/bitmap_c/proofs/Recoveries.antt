-- Logs that are recovered.
use Rattle.std.proofs.Common.{◌≡◌, ℕ, Bool, false, ◌<◌, ◌≤◌, List, [], length, take, Option, Some, None, Result, Ok, Err, refl, sym, ap, subst, ◌∙◌, inl, inr, arith}
use Rattle.std.specs.Prelude.{◌⊎◌, IfSome}
use Rattle.std.proofs.lemmas.Bool.{cases_lt}
use Rattle.std.proofs.lemmas.List.{length-take}
use Rattle.log_frames.specs.declared.frame.Place.{Place}
use Rattle.log_frames.specs.declared.header.HeaderError.TheVariants.{Short}
use Rattle.commit_log.specs.Base.{Base}
use Rattle.commit_log.specs.Entries.{Entry}
use Rattle.commit_log.specs.Logs.{IsLog, LogView, entries_in, log_bytes, place_of, state_of}
use Rattle.commit_log.specs.Recovered.{IsMadeIn, IsPrefixOf, Recovers}
use Rattle.commit_log.specs.declared.recovery.RecoverError.{RecoverError}
use Rattle.commit_log.specs.declared.recovery.RecoverError.TheVariants.{Header, NoBase}
use Rattle.bitmap_session.specs.Logged.{LoggedView}
use Rattle.bitmap_session.specs.Machine.{Machine}
use Rattle.bitmap_session.specs.Saved.{IsOutside, kept_part}
use Rattle.bitmap_c.specs.declared.any.AnySession.{AnySession}
use Rattle.bitmap_c.specs.Recovered.{EndsInBase, KeepsEntries, ReadsLog, RecoversBytes, good_or, log_at}
use Rattle.bitmap_c.specs.Statuses.{recover_status}
use Rattle.bitmap_c.specs.Widths.{log_of, machine, width}

-- ---- a log whose base is not whole

-- what a reader returns for less than a header, and for a part of a log that ends in its base
abbrev pub ReadsBase : {X : Type 0} → ℕ → List ℕ → Result X RecoverError → Type 0
ReadsBase n bytes read =
    (length bytes < 32 → read ≡ Err (Header Short))
    × ((base : Base) (entries : List Entry) (m : ℕ) → IsLog n base entries → 32 ≤ m → m < length (log_bytes n base []) → bytes ≡ take m (log_bytes n base entries) → read ≡ Err NoBase)

-- it is an error in which the bytes end early
base_read : {X : Type 0} (n : ℕ) (bytes : List ℕ) (read : Result X RecoverError) (base : Base) (entries : List Entry) (size : ℕ) → ReadsBase n bytes read → EndsInBase n base entries size bytes
    → (read ≡ Err (Header Short)) ⊎ (read ≡ Err NoBase)
base_read n bytes read base entries size reads ends = elim (cases_lt size 32) [
  | inl few ↦
      let all = log_bytes n base entries in
      let same : length bytes ≡ length (take size all) = ap (λ (x : List ℕ). length x) ends.2 in
      inl (reads.0 (omega (arith, few, same, length-take size all)))
  | inr many ↦ inr (reads.1 base entries size ends.0 many ends.1 ends.2)
]

pub never_recovered : {X : Type 0} (n : ℕ) (bytes : List ℕ) (x : X) (base : Base) (entries : List Entry) (size : ℕ) → ReadsBase n bytes (Ok x) → EndsInBase n base entries size bytes → ⊥
never_recovered n bytes x base entries size reads ends = elim (base_read n bytes (Ok x) base entries size reads ends) [
  | inl h ↦ absurd cc
  | inr h ↦ absurd cc
]

pub base_status : {X : Type 0} (n : ℕ) (bytes : List ℕ) (e : RecoverError) (base : Base) (entries : List Entry) (size : ℕ) → ReadsBase {X = X} n bytes (Err e) → EndsInBase n base entries size bytes
    → recover_status e ≡ 20
base_status {X = X} n bytes e base entries size reads ends = elim (base_read {X = X} n bytes (Err e) base entries size reads ends) [
  | inl h ↦ let is : e ≡ Header Short = cc in ap (λ (x : RecoverError). recover_status x) is
  | inr h ↦ let is : e ≡ NoBase = cc in ap (λ (x : RecoverError). recover_status x) is
]

-- ---- what a log is read to

-- a log of which no bytes are to be written is the one at its place
nothing_left : (log : LogView) (place : Place) → log.bytes ≡ [] → log.place ≡ place → Some log ≡ Some (log_at place)
nothing_left log place none at =
    ap (λ (bytes : List ℕ). Some (record { bytes = bytes; place = log.place })) none ∙ ap (λ (p : Place). Some (log_at p)) at

-- a recovered session, its log and its position
pub read_log : (n : ℕ) (bytes : List ℕ) (v : LoggedView) (torn : Bool) (m : Machine) (log : LogView) (good : ℕ)
    → m ≡ v.machine
    → log ≡ v.log
    → good ≡ v.log.place.at
    → Recovers n bytes (kept_part v.machine.state) v.log.place torn
    → IsOutside v.machine
    → v.log.bytes ≡ []
    → v.log.place.at ≤ length bytes
    → ((base : Base) (entries : List Entry) → IsLog n base entries → bytes ≡ log_bytes n base entries
    → (kept_part v.machine.state ≡ state_of n base entries) × (v.log.place ≡ place_of n base entries) × (torn ≡ false))
    → ((base : Base) (entries : List Entry) (size : ℕ) → IsPrefixOf n base entries size bytes
    → IsMadeIn n base entries size (kept_part v.machine.state) v.log.place torn)
    → ((base : Base) (entries : List Entry) (size : ℕ) → EndsInBase n base entries size bytes → ⊥)
    → ReadsLog n bytes (Ok ((m, Some log), good))
read_log n bytes v torn m log good same_machine same_log same_good recovers outside none within whole prefix never =
    rw (same_machine, same_log, same_good) (record {
      recovered = record {
        place = v.log.place;
        torn = torn;
        recovers = recovers;
        outside = outside;
        log_is = nothing_left v.log v.log.place none refl;
        good_is = refl;
        within = within;
      };
      whole = λ base entries log is.
          let made = whole base entries log is in
          (made.0, nothing_left v.log (place_of n base entries) none made.1);
      prefix = λ base entries size is.
          let made = prefix base entries size is in
          (made.state_is, nothing_left v.log (place_of n base (entries_in size n base entries)) none made.place_is);
      of_prefix = λ base entries size is. tt;
      complete = λ state place tears is. tt;
      cut = λ base entries size ends. never base entries size ends;
      error = tt;
    })

-- ---- a log that is recovered

-- of no session anything holds
of_none : (new : Option AnySession) (Is : AnySession → Type 0) → new ≡ None → IfSome new Is
of_none new Is none = subst (λ (x : Option AnySession). IfSome x Is) (sym none) tt

-- what holds of a session holds of the one in a handle
of_some : (new : Option AnySession) (Is : AnySession → Type 0) (made : AnySession) → new ≡ Some made → Is made → IfSome new Is
of_some new Is made some holds = subst (λ (x : Option AnySession). IfSome x Is) (sym some) holds

-- a session was recovered, and put into the handle
pub recovered : (n : ℕ) (bytes : List ℕ) (made : AnySession) (old_good good : ℕ) (new : Option AnySession)
    → ReadsLog n bytes (Ok ((machine made, log_of made), good))
    → width made ≡ n
    → new ≡ Some made
    → RecoversBytes n bytes 0 old_good good new
recovered n bytes made old_good good new read same some = record {
  outcome = inl (refl, (made, some, same, read.recovered));
  whole = λ base entries log is.
      of_some new (λ m. KeepsEntries n base entries (machine m) (log_of m)) made some (read.whole base entries log is);
  prefix = λ base entries size is.
      of_some new (λ m. KeepsEntries n base (entries_in size n base entries) (machine m) (log_of m)) made some (read.prefix base entries size is);
  of_prefix = λ base entries size is. inl refl;
  complete = λ state place torn is. inl refl;
  cut = λ base entries size ends. absurd (read.cut base entries size ends);
}

-- a session was recovered, and not put into the handle
pub not_filled : (n : ℕ) (bytes : List ℕ) (found : (Machine × Option LogView) × ℕ) (good : ℕ) (new : Option AnySession)
    → ReadsLog n bytes (Ok found)
    → new ≡ None
    → RecoversBytes n bytes 13 good good new
not_filled n bytes found good new read none = record {
  outcome = inr (none, inl (refl, refl));
  whole = λ base entries log is. of_none new (λ m. KeepsEntries n base entries (machine m) (log_of m)) none;
  prefix = λ base entries size is. of_none new (λ m. KeepsEntries n base (entries_in size n base entries) (machine m) (log_of m)) none;
  of_prefix = λ base entries size is. inr refl;
  complete = λ state place torn is. inr refl;
  cut = λ base entries size ends. absurd (read.cut base entries size ends);
}

-- nothing was recovered
pub not_recovered : (n : ℕ) (bytes : List ℕ) (e : RecoverError) (good : ℕ) (new : Option AnySession)
    → ReadsLog n bytes (Err e)
    → new ≡ None
    → RecoversBytes n bytes (recover_status e) good (good_or e good) new
not_recovered n bytes e good new read none = record {
  outcome = inr (none, inr (e, refl, refl, read.error));
  whole = λ base entries log is. of_none new (λ m. KeepsEntries n base entries (machine m) (log_of m)) none;
  prefix = λ base entries size is. of_none new (λ m. KeepsEntries n base (entries_in size n base entries) (machine m) (log_of m)) none;
  of_prefix = λ base entries size is. inr (ap (λ (x : RecoverError). recover_status x) (read.of_prefix base entries size is));
  complete = λ state place torn is. inr (ap (λ (x : RecoverError). recover_status x) (read.complete state place torn is));
  cut = λ base entries size ends. read.cut base entries size ends;
}
