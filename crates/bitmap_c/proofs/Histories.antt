-- Histories that are written and loaded.
use Rattle.std.proofs.Common.{◌≡◌, ℕ, ◌<◌, ◌≤◌, List, length, take, Option, None, Result, Ok, Err, refl, sym, ap, subst, ◌∙◌, inl, inr, arith}
use Rattle.std.specs.Prelude.{◌⊎◌, IfSome, alloc_error}
use Rattle.std.proofs.lemmas.Bool.{cases_lt}
use Rattle.std.proofs.lemmas.List.{length-take-le}
use Rattle.log_frames.specs.declared.header.HeaderError.TheVariants.{Short as HeaderShort}
use Rattle.commit_log.specs.History.{HasLog, history_bytes}
use Rattle.commit_log.specs.Kept.{Kept}
use Rattle.commit_log.specs.Reading.{IsCutOff, IsWithin, Ranges}
use Rattle.commit_log.specs.declared.reading.HistoryError.{HistoryError}
use Rattle.commit_log.specs.declared.reading.HistoryError.TheVariants.{Header, Memory, Short}
use Rattle.bitmap_session.specs.Replies.{Refusal}
use Rattle.bitmap_session.specs.Saved.{kept_part}
use Rattle.bitmap_session.specs.declared.session.saved.SaveError.{SaveError}
use Rattle.bitmap_session.specs.declared.session.saved.SaveError.TheVariants.{InBatch, Memory as SaveMemory}
use Rattle.bitmap_c.specs.declared.any.AnySession.{AnySession}
use Rattle.bitmap_c.specs.Saved.{IsFound, IsPart, LoadsBytes, ReadsHistory, save_refusal}
use Rattle.bitmap_c.specs.Statuses.{history_status, refusal_status}
use Rattle.bitmap_c.specs.Widths.{machine}

-- ---- a history that is not written

-- the status of a refused save is not one with which bytes are found
pub never_found : (e : SaveError) (refusal : Refusal) (status : ℕ) → refusal ≡ save_refusal e → status ≡ refusal_status refusal → IsFound status → ⊥
never_found InBatch refusal status same is (inl done) =
    let no : 1 ≡ 0 = sym (ap (λ r. refusal_status r) same) ∙ (sym is ∙ done) in omega (arith, no)
never_found InBatch refusal status same is (inr other) =
    let no : 1 ≡ 18 = sym (ap (λ r. refusal_status r) same) ∙ (sym is ∙ other) in omega (arith, no)
never_found (SaveMemory e) refusal status same is (inl done) =
    let no : 13 ≡ 0 = sym (ap (λ r. refusal_status r) same) ∙ (sym is ∙ done) in omega (arith, no)
never_found (SaveMemory e) refusal status same is (inr other) =
    let no : 13 ≡ 18 = sym (ap (λ r. refusal_status r) same) ∙ (sym is ∙ other) in omega (arith, no)

-- ---- a history of which a part is missing

-- what a reader returns for less than a header, and for a part of a history that is longer
abbrev pub ReadsParts : {X : Type 0} → ℕ → Ranges → List ℕ → Result X HistoryError → Type 0
ReadsParts n r bytes read =
    (length bytes < 32 → read ≡ Err (Header HeaderShort))
    × ((kept : Kept) (m : ℕ) → HasLog n kept → IsWithin r kept → 32 ≤ m → m < length (history_bytes n kept) → bytes ≡ take m (history_bytes n kept) → IsCutOff read)

part_length : (n : ℕ) (kept : Kept) (bytes : List ℕ) (size : ℕ) → IsPart n kept bytes size → length bytes ≡ size
part_length n kept bytes size part =
    let fewer : size ≤ length (history_bytes n kept) = omega (arith, part.1) in
    ap (λ (x : List ℕ). length x) part.2 ∙ length-take-le size (history_bytes n kept) fewer

-- it is an error in which the bytes end early, or an allocation failed
part_read : {X : Type 0} (n : ℕ) (r : Ranges) (bytes : List ℕ) (read : Result X HistoryError) (kept : Kept) (size : ℕ) → ReadsParts n r bytes read → IsPart n kept bytes size → IsWithin r kept
    → (read ≡ Err (Header HeaderShort)) ⊎ IsCutOff read
part_read n r bytes read kept size parts part within = elim (cases_lt size 32) [
  | inl few ↦ inl (parts.0 (omega (arith, few, part_length n kept bytes size part)))
  | inr many ↦ inr (parts.1 kept size part.0 within many part.1 part.2)
]

pub never_read : {X : Type 0} (n : ℕ) (r : Ranges) (bytes : List ℕ) (x : X) (kept : Kept) (size : ℕ) → ReadsParts n r bytes (Ok x) → IsPart n kept bytes size → IsWithin r kept → ⊥
never_read n r bytes x kept size parts part within = elim (part_read n r bytes (Ok x) kept size parts part within) [
  | inl h ↦ absurd cc
  | inr (inl h) ↦ absurd cc
  | inr (inr h) ↦ absurd cc
]

pub part_status : {X : Type 0} (n : ℕ) (r : Ranges) (bytes : List ℕ) (e : HistoryError) (kept : Kept) (size : ℕ) → ReadsParts {X = X} n r bytes (Err e) → IsPart n kept bytes size → IsWithin r kept
    → (history_status e ≡ 20) ⊎ (history_status e ≡ 13)
part_status {X = X} n r bytes e kept size parts part within = elim (part_read {X = X} n r bytes (Err e) kept size parts part within) [
  | inl h ↦ let is : e ≡ Header HeaderShort = cc in inl (ap (λ (x : HistoryError). history_status x) is)
  | inr (inl h) ↦ let is : e ≡ Short = cc in inl (ap (λ (x : HistoryError). history_status x) is)
  | inr (inr h) ↦ let is : e ≡ Memory alloc_error = cc in inr (ap (λ (x : HistoryError). history_status x) is)
]

-- ---- a history that is loaded

-- nothing was read
pub not_loaded : (n : ℕ) (r : Ranges) (bytes : List ℕ) (e : HistoryError) (used : ℕ) (new : Option AnySession)
    → ReadsHistory n r bytes (Err e)
    → new ≡ None
    → LoadsBytes n r bytes (history_status e) used used new
not_loaded n r bytes e used new read none = record {
  outcome = inr (none, refl, inr (e, refl, read.error));
  again = λ kept rest begins ends. subst (λ (x : Option AnySession). IfSome x (λ m. kept_part (machine m).state ≡ kept)) (sym none) tt;
  complete = λ kept rest begins within. inr (ap (λ (x : HistoryError). history_status x) (read.complete kept rest begins within));
  cut = λ kept part_size part within. read.cut kept part_size part within;
}
