-- What a crash has left of a log is read: the entries that are whole in it, up to a frame that is not finished.
use Rattle.std.proofs.Common.{◌≡◌, inl, ⊎_elim, ℕ, ◌^◌, ◌<◌, ◌≤◌, Bool, false, ltb, List, [], ◌∷◌, ◌++◌, length, take, drop, Err, alloc_error, Decides, refl, sym, ap, subst, ◌∙◌, arith, append_assoc, length-append}
use Rattle.std.proofs.lemmas.Bool.{false≢true, lt-ltb, ltb-true}
use Rattle.std.proofs.lemmas.List.{append-nil, append_cancel_left, drop_at, take_at}
use Rattle.log_frames.specs.Frames.{frame, frame_at, frames, place_after}
use Rattle.log_frames.specs.Header.{first_place, header}
use Rattle.log_frames.specs.declared.frame.Place.{Place}
use Rattle.log_frames.specs.declared.frame.Stop.TheVariants.{Torn}
use Rattle.log_frames.proofs.Frames.{frame-again, frame-takes, nothing-torn, once}
use Rattle.log_frames.proofs.Numbers.{IsBytes, IsBytes-drop, IsBytes-take}
use Rattle.commit_log.specs.Base.{Base}
use Rattle.commit_log.specs.Entries.{Entry}
use Rattle.commit_log.specs.Kept.{Kept}
use Rattle.commit_log.specs.Logs.{IsLog, bodies, log_bytes, place_of, state_of}
use Rattle.commit_log.specs.Recovered.{BeginsWith, HasFirstFrame, Recovers}
use Rattle.commit_log.specs.declared.recovery.RecoverError.{RecoverError}
use Rattle.commit_log.specs.declared.recovery.RecoverError.TheVariants.{Memory}
use Rattle.commit_log.proofs.LogBytes.{log_bodies, place_counts}
use Rattle.commit_log.proofs.Recovering.{one_log, stops_at}
use Rattle.log_store.specs.Gate.{IsBeforeGate, IsShut, IsUnfinished, ReadsFrames}
use Rattle.log_store.specs.Opened.{ReadsUpTo}
use Rattle.log_store.proofs.FramesRead.{one_stop}

-- ---- bytes that recover

-- the bytes of a log that recovers are read up to its torn rest
pub recovers_up_to : (n : ℕ) (bytes : List ℕ) (state : Kept) (place : Place) (torn : Bool) → Recovers n bytes state place torn → ReadsUpTo n bytes state place
recovers_up_to n bytes state place torn h = record { rest = h.rest; reads = h.reads; unfinished = record { why = Torn; stop = h.stop; cause = inl refl } }

-- the position after a log is within the bytes that begin with it
pub reads_within : (n : ℕ) (bytes : List ℕ) (state : Kept) (place : Place) → ReadsUpTo n bytes state place → place.at ≤ length bytes
reads_within n bytes state place h =
    let r = h.reads in
    omega (arith, ap (λ (p : Place). p.at) r.place_is, place_counts n r.base r.entries, ap length r.begins.whole, length-append (log_bytes n r.base r.entries) h.rest)

-- no bytes are left of a log that is not torn
none_left : (n : ℕ) (bytes : List ℕ) (state : Kept) (place : Place) → (h : Recovers n bytes state place false) → h.rest ≡ []
none_left n bytes state place h = empty h.rest (λ more. absurd (false≢true (h.torn_is.1 more)))
  where
    empty : (rest : List ℕ) → (0 < length rest → ⊥) → rest ≡ []
    empty [] none = refl
    empty (x ∷ rest) none = absurd (none (omega arith))

-- a log is read frame by frame
log_frames_read : (n : ℕ) (base : Base) (entries : List Entry) (bytes rest : List ℕ) → IsLog n base entries → bytes ≡ log_bytes n base entries ++ rest → ReadsFrames n bytes (place_of n base entries) rest
log_frames_read n base entries bytes rest log is = record { bodies = bodies n base entries; each = log_bodies n base entries log; whole = is; place_is = refl }

-- ---- a log before a closed gate

-- a log that is whole before a closed gate is read up to the gate
pub gate_reads : (n : ℕ) (bytes good : List ℕ) (state : Kept) (place : Place) → IsBeforeGate n bytes good → Recovers n good state place false → ReadsUpTo n bytes state place
gate_reads n bytes good state place k h =
    let r = h.reads in
    let log : List ℕ = log_bytes n r.base r.entries in
    let none : h.rest ≡ [] = none_left n good state place h in
    let good_is : good ≡ log = r.begins.whole ∙ ap (λ (x : List ℕ). log ++ x) none ∙ append-nil log in
    let whole : bytes ≡ log ++ k.rest = k.reads.whole ∙ ap (λ (x : List ℕ). x ++ k.rest) (sym k.good_is ∙ good_is) in
    let there : k.place ≡ place_of n r.base r.entries =
    k.reads.place_is
    ∙ ap (place_after (first_place n)) (once (first_place n) k.reads.bodies (bodies n r.base r.entries) [] [] Torn Torn k.reads.each (log_bodies n r.base r.entries r.begins.log) (nothing-torn (place_after (first_place n) k.reads.bodies)) (nothing-torn (place_of n r.base r.entries))
    (ap (λ (x : List ℕ). x ++ []) (append_cancel_left (header n) (frames (first_place n) k.reads.bodies) (frames (first_place n) (bodies n r.base r.entries)) (sym k.good_is ∙ good_is)))).0 in
    record {
      rest = k.rest;
      reads = record { base = r.base; entries = r.entries; begins = record { whole = whole; log = r.begins.log }; state_is = r.state_is; place_is = r.place_is };
      unfinished = record { why = k.unfinished.why; stop = ap (λ (p : Place). frame_at p k.rest) (r.place_is ∙ sym there) ∙ k.unfinished.stop; cause = k.unfinished.cause };
    }

-- bytes whose first frame is whole before a gate have a whole first frame
pub first_before_gate : (n : ℕ) (bytes good : List ℕ) → IsBytes bytes → length bytes < 2 ^ 64 → IsBeforeGate n bytes good → HasFirstFrame n good → HasFirstFrame n bytes
first_before_gate n bytes good fits small k h =
    let rest : List ℕ = h.rest ++ k.rest in
    let is : bytes ≡ header n ++ rest = k.reads.whole ∙ ap (λ (x : List ℕ). x ++ k.rest) (sym k.good_is ∙ h.header_is) ∙ append_assoc (header n) h.rest k.rest in
    let behind : drop (length (header n)) bytes ≡ rest = ap (drop (length (header n))) is ∙ drop_at (header n) rest (length (header n)) refl in
    let first : take (length h.rest) (drop (length (header n)) bytes) ≡ h.rest = ap (take (length h.rest)) behind ∙ take_at h.rest k.rest (length h.rest) refl in
    let each : IsBytes h.rest = subst IsBytes first (IsBytes-take (length h.rest) (drop (length (header n)) bytes) (IsBytes-drop (length (header n)) bytes fits)) in
    let within : length h.rest < 2 ^ 64 = omega (arith, small, ap length is, length-append (header n) rest, length-append h.rest k.rest) in
    let taken = frame-takes (first_place n) h.rest h.body h.left each within h.whole in
    let parts : rest ≡ frame (first_place n) h.body ++ (h.left ++ k.rest) = ap (λ (x : List ℕ). x ++ k.rest) taken.parts ∙ append_assoc (frame (first_place n) h.body) h.left k.rest in
    record { rest = rest; header_is = is; body = h.body; left = h.left ++ k.rest; whole = ap (frame_at (first_place n)) parts ∙ frame-again (first_place n) h.body (h.left ++ k.rest) taken.is_body }

-- ---- a log, and a frame that is not finished

-- bytes that recover do so to the state that the log makes
pub left_state : (n : ℕ) (base : Base) (entries : List Entry) (rest bytes : List ℕ) (state : Kept) (place : Place) (torn : Bool) → 0 < n → IsLog n base entries → bytes ≡ log_bytes n base entries ++ rest → IsUnfinished (place_of n base entries) rest
    → Recovers n bytes state place torn → (state ≡ state_of n base entries) × (place ≡ place_of n base entries)
left_state n base entries rest bytes state place torn pos log is unfinished r =
    let a = r.reads in
    let ours : BeginsWith n bytes base entries rest = record { whole = is; log = log } in
    let same = one_log n bytes a.base base a.entries entries r.rest rest Torn unfinished.why pos a.begins ours (stops_at n bytes state place r.rest Torn a r.stop) unfinished.stop in
    (a.state_is ∙ (λ j. state_of n (same.0 j) (same.1 j)), a.place_is ∙ (λ j. place_of n (same.0 j) (same.1 j)))

-- the bytes before a closed gate are those of the log
pub left_good : (n : ℕ) (base : Base) (entries : List Entry) (rest bytes good : List ℕ) → IsLog n base entries → bytes ≡ log_bytes n base entries ++ rest → IsUnfinished (place_of n base entries) rest → IsBeforeGate n bytes good
    → good ≡ log_bytes n base entries
unfolding log_frames_read
left_good n base entries rest bytes good log is unfinished k =
    let ours = log_frames_read n base entries bytes rest log is in
    let same = one_stop n bytes k.rest rest k.place (place_of n base entries) k.unfinished.why unfinished.why k.reads ours k.unfinished.stop unfinished.stop in
    k.good_is ∙ ap (λ (bs : List (List ℕ)). header n ++ frames (first_place n) bs) same.0

decides_some : (k : ℕ) → Decides (ltb 0 k) (0 < k)
decides_some k = (λ t. ltb-true 0 k t, λ h. lt-ltb 0 k h)

-- without a closed gate, the bytes recover
left_recovers : (n : ℕ) (base : Base) (entries : List Entry) (rest bytes : List ℕ) → IsLog n base entries → bytes ≡ log_bytes n base entries ++ rest → IsUnfinished (place_of n base entries) rest → ((good : List ℕ) → IsBeforeGate n bytes good → ⊥)
    → Recovers n bytes (state_of n base entries) (place_of n base entries) (ltb 0 (length rest))
unfolding log_frames_read
left_recovers n base entries rest bytes log is unfinished none =
    let torn : unfinished.why ≡ Torn =
    ⊎_elim (λ (t : unfinished.why ≡ Torn). t) (λ (shut : IsShut rest). absurd (none (log_bytes n base entries) (record { place = place_of n base entries; rest = rest; reads = log_frames_read n base entries bytes rest log is; good_is = refl; unfinished = unfinished; shut = shut }))) unfinished.cause in
    record {
      rest = rest;
      reads = record { base = base; entries = entries; begins = record { whole = is; log = log }; state_is = refl; place_is = refl };
      stop = unfinished.stop ∙ (λ i. Err (torn i));
      torn_is = decides_some (length rest);
    }

-- so that the only error is that an allocation failed
pub left_memory : (n : ℕ) (base : Base) (entries : List Entry) (rest bytes : List ℕ) (e : RecoverError) → IsLog n base entries → bytes ≡ log_bytes n base entries ++ rest → IsUnfinished (place_of n base entries) rest → ((good : List ℕ) → IsBeforeGate n bytes good → ⊥)
    → ((state : Kept) (place : Place) (torn : Bool) → Recovers n bytes state place torn → e ≡ Memory alloc_error) → e ≡ Memory alloc_error
left_memory n base entries rest bytes e log is unfinished none only =
    only (state_of n base entries) (place_of n base entries) (ltb 0 (length rest)) (left_recovers n base entries rest bytes log is unfinished none)
