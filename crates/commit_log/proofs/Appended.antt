-- A log with one more entry, and the first entries of a log.
use Rattle.std.proofs.Common.{◌≡◌, ℕ, zero, suc, List, [], ◌∷◌, ◌++◌, length, map, take, refl, sym, ap, ◌∙◌, append_assoc}
use Rattle.std.proofs.lemmas.List.{append-nil, take_at}
use Rattle.log_frames.specs.Frames.{frame, frames, next, place_after}
use Rattle.log_frames.specs.Header.{first_place, header}
use Rattle.log_frames.proofs.Frames.{frames-append, place_after-append}
use Rattle.commit_log.specs.Base.{Base, base_kept, encode_base}
use Rattle.commit_log.specs.Entries.{Entry, encode_entry}
use Rattle.commit_log.specs.Kept.{Kept, after, after_all}
use Rattle.commit_log.specs.Logs.{GoesOn, IsLog, LogView, MayFollow, bodies, framed, log_bytes, place_of, state_of}

-- the bodies of a log with one more entry
map-push : (entries : List Entry) (e : Entry) → map encode_entry (entries ++ e ∷ []) ≡ map encode_entry entries ++ encode_entry e ∷ []
map-push [] e = refl
map-push (x ∷ xs) e = ap (λ (bs : List (List ℕ)). encode_entry x ∷ bs) (map-push xs e)

bodies-push : (n : ℕ) (base : Base) (entries : List Entry) (e : Entry) → bodies n base (entries ++ e ∷ []) ≡ bodies n base entries ++ encode_entry e ∷ []
bodies-push n base entries e = ap (λ (bs : List (List ℕ)). encode_base n base ∷ bs) (map-push entries e)

pub log_bytes-push : (n : ℕ) (base : Base) (entries : List Entry) (e : Entry) → log_bytes n base (entries ++ e ∷ []) ≡ log_bytes n base entries ++ frame (place_of n base entries) (encode_entry e)
log_bytes-push n base entries e =
    let first = first_place n in
    let before = bodies n base entries in
    let last = frame (place_of n base entries) (encode_entry e) in
    ap (λ (bs : List (List ℕ)). header n ++ frames first bs) (bodies-push n base entries e)
    ∙ ap (λ (x : List ℕ). header n ++ x) (frames-append first before (encode_entry e ∷ []))
    ∙ ap (λ (x : List ℕ). header n ++ (frames first before ++ x)) (append-nil last)
    ∙ sym (append_assoc (header n) (frames first before) last)

pub place_of-push : (n : ℕ) (base : Base) (entries : List Entry) (e : Entry) → place_of n base (entries ++ e ∷ []) ≡ next (place_of n base entries) (encode_entry e)
place_of-push n base entries e =
    ap (place_after (first_place n)) (bodies-push n base entries e)
    ∙ place_after-append (first_place n) (bodies n base entries) (encode_entry e ∷ [])

after_all-push : (n : ℕ) (s : Kept) (entries : List Entry) (e : Entry) → after_all n s (entries ++ e ∷ []) ≡ after n (after_all n s entries) e
after_all-push n s [] e = refl
after_all-push n s (x ∷ xs) e = after_all-push n (after n s x) xs e

pub state_of-push : (n : ℕ) (base : Base) (entries : List Entry) (e : Entry) → state_of n base (entries ++ e ∷ []) ≡ after n (state_of n base entries) e
state_of-push n base entries e = after_all-push n (base_kept base) entries e

GoesOn-push : (n : ℕ) (s : Kept) (entries : List Entry) (e : Entry) → GoesOn n s entries → MayFollow n (after_all n s entries) e → GoesOn n s (entries ++ e ∷ [])
GoesOn-push n s [] e h follows = (follows, tt)
GoesOn-push n s (x ∷ xs) e h follows = (h.0, GoesOn-push n (after n s x) xs e h.1 follows)

GoesOn-take : (n : ℕ) (s : Kept) (entries : List Entry) (k : ℕ) → GoesOn n s entries → GoesOn n s (take k entries)
GoesOn-take n s entries zero h = tt
GoesOn-take n s [] (suc k) h = tt
GoesOn-take n s (x ∷ xs) (suc k) h = (h.0, GoesOn-take n (after n s x) xs k h.1)

pub IsLog-push : (n : ℕ) (base : Base) (entries : List Entry) (e : Entry) → IsLog n base entries → MayFollow n (state_of n base entries) e → IsLog n base (entries ++ e ∷ [])
IsLog-push n base entries e h follows = record { fits = h.fits; small = h.small; goes_on = GoesOn-push n (base_kept base) entries e h.goes_on follows }

pub IsLog-take : (n : ℕ) (base : Base) (entries : List Entry) (k : ℕ) → IsLog n base entries → IsLog n base (take k entries)
IsLog-take n base entries k h = record { fits = h.fits; small = h.small; goes_on = GoesOn-take n (base_kept base) entries k h.goes_on }

-- a log from which the last frame is cut off is the log before it
pub cut_back : (log : LogView) (body : List ℕ) (len : ℕ) → len ≡ length log.bytes → record { bytes = take len (framed log body).bytes; place = log.place } ≡ log
cut_back log body len is = λ i. record { bytes = take_at log.bytes (frame log.place body) len (sym is) i; place = log.place }
