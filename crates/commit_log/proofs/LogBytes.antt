-- The bytes of a log, the place after it, and the state that it makes, with one more entry or with fewer.
use Rattle.std.proofs.Common.{◌≡◌, ℕ, zero, suc, ◌<◌, List, [], ◌∷◌, ◌++◌, length, map, take, refl, sym, ap, ◌∙◌, append_assoc, arith}
use Rattle.std.specs.List.{AllByRecursion}
use Rattle.std.proofs.lemmas.List.{append-nil, length-append}
use Rattle.log_frames.specs.Frames.{IsBody, frame, frames, next, place_after}
use Rattle.log_frames.specs.Header.{first_place, header}
use Rattle.log_frames.specs.declared.frame.Place.{Place}
use Rattle.log_frames.proofs.Frames.{at-counts, frames-append, place_after-append}
use Rattle.log_frames.proofs.Headers.{length-header}
use Rattle.commit_log.specs.Base.{Base, base_kept, encode_base}
use Rattle.commit_log.specs.Entries.{Entry, encode_entry}
use Rattle.commit_log.specs.Kept.{Kept, after, after_all}
use Rattle.commit_log.specs.Logs.{GoesOn, IsLog, MayFollow, bodies, log_bytes, place_of}
use Rattle.commit_log.proofs.Entries.{entry_some}

pub goes_on_more : (n : ℕ) (s : Kept) (entries : List Entry) (e : Entry) → GoesOn n s entries → MayFollow n (after_all n s entries) e → GoesOn n s (entries ++ e ∷ [])
goes_on_more n s [] e h f = (f, tt)
goes_on_more n s (x ∷ xs) e h f = (h.0, goes_on_more n (after n s x) xs e h.1 f)

pub goes_on_take : (n : ℕ) (s : Kept) (entries : List Entry) (k : ℕ) → GoesOn n s entries → GoesOn n s (take k entries)
goes_on_take n s entries zero h = tt
goes_on_take n s [] (suc k) h = tt
goes_on_take n s (x ∷ xs) (suc k) h = (h.0, goes_on_take n (after n s x) xs k h.1)

pub state_more : (n : ℕ) (s : Kept) (entries : List Entry) (e : Entry) → after_all n s (entries ++ e ∷ []) ≡ after n (after_all n s entries) e
state_more n s [] e = refl
state_more n s (x ∷ xs) e = state_more n (after n s x) xs e

bodies_more : (entries : List Entry) (e : Entry) → map encode_entry (entries ++ e ∷ []) ≡ map encode_entry entries ++ encode_entry e ∷ []
bodies_more [] e = refl
bodies_more (x ∷ xs) e = ap (λ (bs : List (List ℕ)). encode_entry x ∷ bs) (bodies_more xs e)

-- the bytes of a log and of one more entry
pub bytes_more : (n : ℕ) (base : Base) (entries : List Entry) (e : Entry) → log_bytes n base (entries ++ e ∷ []) ≡ log_bytes n base entries ++ frame (place_of n base entries) (encode_entry e)
bytes_more n base entries e =
    let start : Place = first_place n in
    let before : List (List ℕ) = bodies n base entries in
    let last : List ℕ = frame (place_after start before) (encode_entry e) in
    ap (λ (bs : List (List ℕ)). header n ++ frames start (encode_base n base ∷ bs)) (bodies_more entries e)
    ∙ ap (λ (x : List ℕ). header n ++ x) (frames-append start before (encode_entry e ∷ []) ∙ ap (λ (x : List ℕ). frames start before ++ x) (append-nil last))
    ∙ sym (append_assoc (header n) (frames start before) last)

-- the place after them
pub place_more : (n : ℕ) (base : Base) (entries : List Entry) (e : Entry) → place_of n base (entries ++ e ∷ []) ≡ next (place_of n base entries) (encode_entry e)
place_more n base entries e =
    ap (λ (bs : List (List ℕ)). place_after (first_place n) (encode_base n base ∷ bs)) (bodies_more entries e)
    ∙ place_after-append (first_place n) (bodies n base entries) (encode_entry e ∷ [])

-- the bytes of a log are those of one without entries, and the frames of its entries
pub log_parts : (n : ℕ) (base : Base) (entries : List Entry) → log_bytes n base entries ≡ log_bytes n base [] ++ frames (next (first_place n) (encode_base n base)) (map encode_entry entries)
log_parts n base entries =
    let one : List ℕ = frame (first_place n) (encode_base n base) in
    let later : List ℕ = frames (next (first_place n) (encode_base n base)) (map encode_entry entries) in
    ap (λ (x : List ℕ). header n ++ (x ++ later)) (sym (append-nil one)) ∙ sym (append_assoc (header n) (one ++ []) later)

pub base_some : (n : ℕ) (b : Base) → 0 < length (encode_base n b)
unfolding encode_base
base_some n b = omega arith

pub entry_bodies : (n : ℕ) (s : Kept) (entries : List Entry) → GoesOn n s entries → AllByRecursion IsBody (map encode_entry entries)
entry_bodies n s [] h = tt
entry_bodies n s (e ∷ es) h = (record { some = entry_some e; fits = h.0.small }, entry_bodies n (after n s e) es h.1)

pub log_bodies : (n : ℕ) (base : Base) (entries : List Entry) → IsLog n base entries → AllByRecursion IsBody (bodies n base entries)
log_bodies n base entries h = (record { some = base_some n base; fits = h.small }, entry_bodies n (base_kept base) entries h.goes_on)

-- the position after a log is the number of its bytes
pub place_counts : (n : ℕ) (base : Base) (entries : List Entry) → (place_of n base entries).at ≡ length (log_bytes n base entries)
place_counts n base entries =
    omega (arith, at-counts (first_place n) (bodies n base entries), length-append (header n) (frames (first_place n) (bodies n base entries)), length-header n)
