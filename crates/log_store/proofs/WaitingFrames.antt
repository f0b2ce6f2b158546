-- Entries that wait to be written after a log.
use Rattle.std.proofs.Common.{◌≡◌, ℕ, ◌+◌, ◌^◌, ◌<◌, List, [], ◌∷◌, ◌++◌, length, map, refl, sym, ap, subst, ◌∙◌, arith, append_assoc, length-append}
use Rattle.std.proofs.lemmas.List.{append-nil, map-append}
use Rattle.commit_log.specs.Accepted.{Accepts}
use Rattle.commit_log.specs.Base.{Base, encode_base}
use Rattle.commit_log.specs.Entries.{Entry, FitsEntry, encode_entry}
use Rattle.commit_log.specs.Kept.{Kept, after}
use Rattle.commit_log.specs.Logs.{IsLog, LogView, MayFollow, appended, bodies, log_bytes, place_of, state_of}
use Rattle.commit_log.proofs.Appended.{IsLog-push, place_of-push, state_of-push}
use Rattle.log_frames.specs.Frames.{frame, frames, next, place_after}
use Rattle.log_frames.specs.Header.{first_place, header}
use Rattle.log_frames.specs.declared.frame.Place.{Place}
use Rattle.log_frames.proofs.Frames.{frames-append, length-frame, place_after-append}
use Rattle.log_store.specs.Buffered.{IsWaiting}

bodies-append : (n : ℕ) (base : Base) (begun more : List Entry) → bodies n base (begun ++ more) ≡ bodies n base begun ++ map encode_entry more
bodies-append n base begun more = ap (λ (bs : List (List ℕ)). encode_base n base ∷ bs) (map-append encode_entry begun more)

-- the bytes of a log with further entries
pub log_bytes-append : (n : ℕ) (base : Base) (begun more : List Entry) → log_bytes n base (begun ++ more) ≡ log_bytes n base begun ++ frames (place_of n base begun) (map encode_entry more)
log_bytes-append n base begun more =
    let first : Place = first_place n in
    let before : List (List ℕ) = bodies n base begun in
    ap (λ (bs : List (List ℕ)). header n ++ frames first bs) (bodies-append n base begun more)
    ∙ ap (λ (x : List ℕ). header n ++ x) (frames-append first before (map encode_entry more))
    ∙ sym (append_assoc (header n) (frames first before) (frames (place_after first before) (map encode_entry more)))

-- the place after them
place_of-append : (n : ℕ) (base : Base) (begun more : List Entry) → place_of n base (begun ++ more) ≡ place_after (place_of n base begun) (map encode_entry more)
place_of-append n base begun more =
    ap (place_after (first_place n)) (bodies-append n base begun more)
    ∙ place_after-append (first_place n) (bodies n base begun) (map encode_entry more)

-- the frames of entries, and of one more
frames-push : (place : Place) (waiting : List Entry) (e : Entry)
    → frames place (map encode_entry (waiting ++ e ∷ [])) ≡ frames place (map encode_entry waiting) ++ frame (place_after place (map encode_entry waiting)) (encode_entry e)
frames-push place waiting e =
    let last : List ℕ = frame (place_after place (map encode_entry waiting)) (encode_entry e) in
    ap (frames place) (map-append encode_entry waiting (e ∷ []))
    ∙ frames-append place (map encode_entry waiting) (encode_entry e ∷ [])
    ∙ ap (λ (x : List ℕ). frames place (map encode_entry waiting) ++ x) (append-nil last)

module _ (n : ℕ) (base : Base) where
  -- no entry waits
  pub waits_none : (begun : List Entry) (state : Kept) (held : LogView) → IsLog n base begun → state ≡ state_of n base begun → held.bytes ≡ [] → held.place ≡ place_of n base begun → IsWaiting n base begun [] state held
  waits_none begun state held log is none place =
      let same : begun ++ [] ≡ begun = append-nil begun in
      record {
        log_is = subst (IsLog n base) (sym same) log;
        state_is = is ∙ ap (state_of n base) (sym same);
        bytes = none;
        place = place ∙ ap (place_of n base) (sym same);
        few = omega (arith, ap length none);
      }

  -- one more entry waits
  pub waits_more : (begun waiting : List Entry) (state : Kept) (held : LogView) (e : Entry) → IsWaiting n base begun waiting state held → FitsEntry n e → Accepts n state e → length (appended held e).bytes + 1 < 2 ^ 56
      → IsWaiting n base begun (waiting ++ e ∷ []) (after n state e) (appended held e)
  waits_more begun waiting state held e w fits accepted few =
      let before : List Entry = begun ++ waiting in
      let same : before ++ e ∷ [] ≡ begun ++ (waiting ++ e ∷ []) = append_assoc begun waiting (e ∷ []) in
      let last : List ℕ = frame held.place (encode_entry e) in
      let size : length (held.bytes ++ last) + 1 < 2 ^ 56 = few in
      let small : length (encode_entry e) < 2 ^ 64 = omega (arith, size, length-append held.bytes last, length-frame held.place (encode_entry e)) in
      let follows : MayFollow n (state_of n base before) e = record { fits = fits; small = small; accepted = subst (λ (s : Kept). Accepts n s e) w.state_is accepted } in
      record {
        log_is = subst (IsLog n base) same (IsLog-push n base before e w.log_is follows);
        state_is = ap (λ (s : Kept). after n s e) w.state_is ∙ sym (state_of-push n base before e) ∙ ap (state_of n base) same;
        bytes = ap (λ (x : List ℕ). x ++ last) w.bytes
            ∙ ap (λ (p : Place). frames (place_of n base begun) (map encode_entry waiting) ++ frame p (encode_entry e)) (w.place ∙ place_of-append n base begun waiting)
            ∙ sym (frames-push (place_of n base begun) waiting e);
        place = ap (λ (p : Place). next p (encode_entry e)) w.place ∙ sym (place_of-push n base before e) ∙ ap (place_of n base) same;
        few = few;
      }

  -- no bytes are the frames of no entry
  pub none_waits : (begun waiting : List Entry) (state : Kept) (held : LogView) → IsWaiting n base begun waiting state held → held.bytes ≡ [] → waiting ≡ []
  none_waits begun [] state held w none = refl
  none_waits begun (e ∷ es) state held w none =
      let place : Place = place_of n base begun in
      let later : List ℕ = frames (next place (encode_entry e)) (map encode_entry es) in
      let is : [] ≡ frame place (encode_entry e) ++ later = sym none ∙ w.bytes in
      absurd (omega (arith, ap length is, length-append (frame place (encode_entry e)) later, length-frame place (encode_entry e)))
