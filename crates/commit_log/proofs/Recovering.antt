-- A log that is read frame by frame, one that was cut off, and what bytes recover to.
use Rattle.std.proofs.Common.{◌≡◌, ℕ, ◌+◌, ◌-◌, ◌^◌, ◌<◌, ◌≤◌, Bool, false, ltb, List, [], ◌∷◌, ◌++◌, length, map, take, drop, Err, Decides, refl, sym, ap, subst, ◌∙◌, append_assoc, arith}
use Rattle.std.proofs.Math.Seq.{take-append-add}
use Rattle.std.proofs.lemmas.Bool.{false≢true, lt-ltb, ltb-true}
use Rattle.std.proofs.lemmas.Bool.Decides.{same_from_decides}
use Rattle.std.proofs.lemmas.List.{append-nil, append_cancel_left, take-map, length-append, length-take}
use Rattle.log_frames.specs.Frames.{IsBody, frame, frame_at, frames, next, place_after, whole_in}
use Rattle.log_frames.specs.Header.{first_place, header}
use Rattle.log_frames.specs.declared.frame.Place.{Place}
use Rattle.log_frames.specs.declared.frame.Stop.{Stop}
use Rattle.log_frames.specs.declared.frame.Stop.TheVariants.{Torn}
use Rattle.log_frames.proofs.Frames.{cut, nothing-torn, once}
use Rattle.commit_log.specs.Accepted.{Accepts}
use Rattle.commit_log.specs.Base.{Base, FitsBase, base_kept, encode_base}
use Rattle.commit_log.specs.Entries.{Entry, encode_entry}
use Rattle.commit_log.specs.Kept.{Kept, after}
use Rattle.commit_log.specs.Logs.{GoesOn, IsLog, MayFollow, bodies, entries_in, log_bytes, place_of, state_of}
use Rattle.commit_log.specs.Recovered.{BeginsWith, IsMadeIn, IsPrefixOf, MakesNext, ReadsTo, Recovers}
use Rattle.commit_log.proofs.Bases.{one_base}
use Rattle.commit_log.proofs.Entries.{one_encoding}
use Rattle.commit_log.proofs.LogBytes.{bytes_more, entry_bodies, goes_on_more, goes_on_take, log_bodies, log_parts, place_counts, place_more, state_more}

-- ---- reading on

-- a base that was read begins a log
pub begun : (n : ℕ) (bytes rest body left : List ℕ) (place behind : Place) (base : Base) (state : Kept) → bytes ≡ header n ++ rest → place ≡ first_place n → rest ≡ frame place body ++ left → behind ≡ next place body → IsBody body
    → body ≡ encode_base n base → FitsBase n base → state ≡ base_kept base → ReadsTo n bytes state behind left
begun n bytes rest body left place behind base state h first_is f after_is size is fits made =
    let one : List ℕ = frame (first_place n) (encode_base n base) in
    let framed : rest ≡ one ++ left = f ∙ ap (λ (p : Place). frame p body ++ left) first_is ∙ ap (λ (b : List ℕ). frame (first_place n) b ++ left) is in
    record {
      base = base;
      entries = [];
      begins = record {
        whole = h
            ∙ ap (λ (x : List ℕ). header n ++ x) framed
            ∙ sym (append_assoc (header n) one left)
            ∙ ap (λ (x : List ℕ). (header n ++ x) ++ left) (sym (append-nil one));
        log = record { fits = fits; small = subst (λ (b : List ℕ). length b < 2 ^ 64) is size.fits; goes_on = tt };
      };
      state_is = made;
      place_is = after_is ∙ ap (λ (p : Place). next p body) first_is ∙ ap (next (first_place n)) is;
    }

-- an entry that was read goes on with it
pub one_more : (n : ℕ) (bytes rest body left : List ℕ) (state new : Kept) (place behind : Place) → ReadsTo n bytes state place rest → rest ≡ frame place body ++ left → behind ≡ next place body → IsBody body → MakesNext n state body new
    → ReadsTo n bytes new behind left
one_more n bytes rest body left state new place behind h f after_is size m =
    let e : Entry = m.entry in
    let before : List ℕ = log_bytes n h.base h.entries in
    let one : List ℕ = frame (place_of n h.base h.entries) (encode_entry e) in
    let is : rest ≡ one ++ left = f ∙ ap (λ (b : List ℕ). frame place b ++ left) m.encoded ∙ ap (λ (p : Place). frame p (encode_entry e) ++ left) h.place_is in
    let follows : MayFollow n (state_of n h.base h.entries) e = record {
      fits = m.fits;
      small = subst (λ (b : List ℕ). length b < 2 ^ 64) m.encoded size.fits;
      accepted = subst (λ (s : Kept). Accepts n s e) h.state_is m.accepted;
    } in
    record {
      base = h.base;
      entries = h.entries ++ e ∷ [];
      begins = record {
        whole = h.begins.whole
            ∙ ap (λ (x : List ℕ). before ++ x) is
            ∙ sym (append_assoc before one left)
            ∙ ap (λ (x : List ℕ). x ++ left) (sym (bytes_more n h.base h.entries e));
        log = record { fits = h.begins.log.fits; small = h.begins.log.small; goes_on = goes_on_more n (base_kept h.base) h.entries e h.begins.log.goes_on follows };
      };
      state_is = m.new_is ∙ ap (λ (s : Kept). after n s e) h.state_is ∙ sym (state_more n (base_kept h.base) h.entries e);
      place_is = after_is ∙ ap (next place) m.encoded ∙ ap (λ (p : Place). next p (encode_entry e)) h.place_is ∙ sym (place_more n h.base h.entries e);
    }

-- ---- one reading

-- two lists of entries with one encoding are one list
one_list : (n : ℕ) (s t : Kept) (entries others : List Entry) → GoesOn n s entries → GoesOn n t others → map encode_entry entries ≡ map encode_entry others → entries ≡ others
one_list n s t [] [] h k e = refl
one_list n s t [] (y ∷ ys) h k e = absurd cc
one_list n s t (x ∷ xs) [] h k e = absurd cc
one_list n s t (x ∷ xs) (y ∷ ys) h k e =
    let heads : encode_entry x ≡ encode_entry y = cc in
    let tails : map encode_entry xs ≡ map encode_entry ys = cc in
    let one : x ≡ y = one_encoding n x y h.0.fits k.0.fits heads in
    let others : xs ≡ ys = one_list n (after n s x) (after n t y) xs ys h.1 k.1 tails in
    λ j. one j ∷ others j

-- the frames of a log and a rest follow the header of bytes that begin with the log
pub after_header : (n : ℕ) (base : Base) (entries : List Entry) (bytes rest left : List ℕ) → bytes ≡ log_bytes n base entries ++ rest → bytes ≡ header n ++ left → left ≡ frames (first_place n) (bodies n base entries) ++ rest
after_header n base entries bytes rest left e f =
    let all : List ℕ = frames (first_place n) (bodies n base entries) in
    append_cancel_left (header n) left (all ++ rest) (sym f ∙ e ∙ append_assoc (header n) all rest)

-- bytes begin with one log that no whole frame follows
pub one_log : (n : ℕ) (bytes : List ℕ) (base other : Base) (entries others : List Entry) (rest left : List ℕ) (why because : Stop) → 0 < n
    → BeginsWith n bytes base entries rest → BeginsWith n bytes other others left → frame_at (place_of n base entries) rest ≡ Err why → frame_at (place_of n other others) left ≡ Err because
    → (base ≡ other) × (entries ≡ others) × (rest ≡ left) × (why ≡ because)
one_log n bytes base other entries others rest left why because pos b c s t =
    let all : List ℕ = frames (first_place n) (bodies n other others) in
    let same = once (first_place n) (bodies n base entries) (bodies n other others) rest left why because (log_bodies n base entries b.log) (log_bodies n other others c.log) s t
    (sym (after_header n base entries bytes rest (all ++ left) b.whole (c.whole ∙ append_assoc (header n) all left))) in
    let lists : encode_base n base ∷ map encode_entry entries ≡ encode_base n other ∷ map encode_entry others = same.0 in
    let heads : encode_base n base ≡ encode_base n other = cc in
    let tails : map encode_entry entries ≡ map encode_entry others = cc in
    (one_base n base other pos b.log.fits c.log.fits heads, one_list n (base_kept base) (base_kept other) entries others b.log.goes_on c.log.goes_on tails, same.1, same.2)

-- the place at which the log of some bytes stops
pub stops_at : (n : ℕ) (bytes : List ℕ) (state : Kept) (place : Place) (rest : List ℕ) (why : Stop) → (h : ReadsTo n bytes state place rest) → frame_at place rest ≡ Err why → frame_at (place_of n h.base h.entries) rest ≡ Err why
stops_at n bytes state place rest why h s = ap (λ (p : Place). frame_at p rest) (sym h.place_is) ∙ s

pub one_recovery : (n : ℕ) (bytes : List ℕ) (state other : Kept) (place after : Place) (torn tears : Bool) → 0 < n → Recovers n bytes state place torn → Recovers n bytes other after tears
    → (state ≡ other) × (place ≡ after) × (torn ≡ tears)
one_recovery n bytes state other place after torn tears pos h k =
    let a = h.reads in
    let b = k.reads in
    let same = one_log n bytes a.base b.base a.entries b.entries h.rest k.rest Torn Torn pos a.begins b.begins (stops_at n bytes state place h.rest Torn a h.stop) (stops_at n bytes other after k.rest Torn b k.stop) in (
      a.state_is ∙ (λ j. state_of n (same.0 j) (same.1 j)) ∙ sym b.state_is,
      a.place_is ∙ (λ j. place_of n (same.0 j) (same.1 j)) ∙ sym b.place_is,
      same_from_decides torn tears h.torn_is (subst (λ (r : List ℕ). Decides tears (0 < length r)) (sym same.2) k.torn_is),
    )

-- the good bytes of bytes that recover
pub good_bytes : (n : ℕ) (bytes : List ℕ) (state : Kept) (place : Place) (torn : Bool) → Recovers n bytes state place torn → (place.at ≤ length bytes) × Decides torn (place.at < length bytes)
good_bytes n bytes state place torn h =
    let r = h.reads in
    let before : List ℕ = log_bytes n r.base r.entries in
    let count : place.at + length h.rest ≡ length bytes = omega (arith, ap (λ (p : Place). p.at) r.place_is, place_counts n r.base r.entries, ap length r.begins.whole, length-append before h.rest) in
    (omega arith, (λ t. let more = h.torn_is.0 t in omega arith, λ more. h.torn_is.1 (omega arith)))

-- a log recovers to the state that it makes
pub log_recovers : (n : ℕ) (base : Base) (entries : List Entry) (bytes : List ℕ) → IsLog n base entries → bytes ≡ log_bytes n base entries → Recovers n bytes (state_of n base entries) (place_of n base entries) false
log_recovers n base entries bytes h is = record {
  rest = [];
  reads = record {
    base = base;
    entries = entries;
    begins = record { whole = is ∙ sym (append-nil (log_bytes n base entries)); log = h };
    state_is = refl;
    place_is = refl;
  };
  stop = nothing-torn (place_of n base entries);
  torn_is = (λ t. absurd (false≢true t), λ more. absurd (omega arith));
}

-- ---- a log that was cut off

-- the first bytes of a log are those of a log with the entries that are whole in them, and a torn rest
prefix_recovers : (n : ℕ) (base : Base) (entries : List Entry) (m : ℕ) (bytes : List ℕ) (torn : Bool) → IsPrefixOf n base entries m bytes → Decides torn (length (log_bytes n base (entries_in m n base entries)) < m)
    → Recovers n bytes (state_of n base (entries_in m n base entries)) (place_of n base (entries_in m n base entries)) torn
prefix_recovers n base entries m bytes torn h d =
    let start : Place = next (first_place n) (encode_base n base) in
    let later : List (List ℕ) = map encode_entry entries in
    let before : List ℕ = log_bytes n base [] in
    let k : ℕ = m - length before in
    let w : ℕ = whole_in k later in
    let kept : List Entry = take w entries in
    let size : length (log_bytes n base entries) ≡ length before + length (frames start later) = ap length (log_parts n base entries) ∙ length-append before (frames start later) in
    let c = cut start later k (entry_bodies n (base_kept base) entries h.log.goes_on) (omega (arith, size, h.within, h.has_base)) in
    let rest : List ℕ = drop (length (frames start (take w later))) (take k (frames start later)) in
    let is : m ≡ length before + k = omega (arith, h.has_base) in
    let whole : bytes ≡ log_bytes n base kept ++ rest = h.is
    ∙ ap (take m) (log_parts n base entries)
    ∙ ap (λ (i : ℕ). take i (before ++ frames start later)) is
    ∙ take-append-add before (frames start later) k
    ∙ ap (λ (x : List ℕ). before ++ x) c.whole
    ∙ sym (append_assoc before (frames start (take w later)) rest)
    ∙ ap (λ (bs : List (List ℕ)). (before ++ frames start bs) ++ rest) (take-map encode_entry w entries)
    ∙ ap (λ (x : List ℕ). x ++ rest) (sym (log_parts n base kept)) in
    let count : length (log_bytes n base kept) + length rest ≡ m =
    omega (arith, ap length whole, length-append (log_bytes n base kept) rest, ap length h.is, length-take m (log_bytes n base entries), h.within) in
    record {
      rest = rest;
      reads = record {
        base = base;
        entries = kept;
        begins = record { whole = whole; log = record { fits = h.log.fits; small = h.log.small; goes_on = goes_on_take n (base_kept base) entries w h.log.goes_on } };
        state_is = refl;
        place_is = refl;
      };
      stop = ap (λ (bs : List (List ℕ)). frame_at (place_after start bs) rest) (sym (take-map encode_entry w entries)) ∙ c.stop;
      torn_is = (λ t. let more = d.0 t in omega arith, λ more. d.1 (omega arith));
    }

decides_less : (k m : ℕ) → Decides (ltb k m) (k < m)
decides_less k m = (λ t. ltb-true k m t, λ h. lt-ltb k m h)

-- some state is recovered from a prefix of a log
pub prefix_state : (n : ℕ) (base : Base) (entries : List Entry) (m : ℕ) (bytes : List ℕ) → IsPrefixOf n base entries m bytes
    → (state : Kept) × (place : Place) × (torn : Bool) × Recovers n bytes state place torn × IsMadeIn n base entries m state place torn
prefix_state n base entries m bytes h =
    let good : ℕ = length (log_bytes n base (entries_in m n base entries)) in (
      state_of n base (entries_in m n base entries),
      place_of n base (entries_in m n base entries),
      ltb good m,
      prefix_recovers n base entries m bytes (ltb good m) h (decides_less good m),
      record { state_is = refl; place_is = refl; torn_is = decides_less good m },
    )

-- and it is the one that is recovered from these bytes
pub made_in : (n : ℕ) (base : Base) (entries : List Entry) (m : ℕ) (bytes : List ℕ) (state : Kept) (place : Place) (torn : Bool) → 0 < n → IsPrefixOf n base entries m bytes → Recovers n bytes state place torn
    → IsMadeIn n base entries m state place torn
made_in n base entries m bytes state place torn pos h r =
    let good : ℕ = length (log_bytes n base (entries_in m n base entries)) in
    let made = prefix_recovers n base entries m bytes (ltb good m) h (decides_less good m) in
    let same = one_recovery n bytes state (state_of n base (entries_in m n base entries)) place (place_of n base (entries_in m n base entries)) torn (ltb good m) pos r made in
    record { state_is = same.0; place_is = same.1; torn_is = subst (λ (b : Bool). Decides b (good < m)) (sym same.2) (decides_less good m) }
