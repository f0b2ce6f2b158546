-- Why bytes are not recovered: bytes that recover have no error but that an allocation failed, and bytes that end early have the error of their end.
use Rattle.std.proofs.Common.{◌≡◌, ◌≢◌, ◌⊎◌, inl, inr, ℕ, ◌+◌, ◌-◌, ◌^◌, ◌<◌, ◌≤◌, Bool, true, ltb, List, [], ◌∷◌, ◌++◌, length, map, take, Result, Ok, Err, IsSome, IfOk, IfErr, alloc_error, refl, sym, ap, subst, ◌∙◌, append_assoc, arith}
use Rattle.std.proofs.Math.Seq.{take-append-add}
use Rattle.std.proofs.lemmas.Bool.{false≢true, lt-ltb}
use Rattle.std.proofs.lemmas.List.{append-nil, append_cancel_left, take-append-le, length-append}
use Rattle.bitmap_bytes.specs.Chunk.{IsWidth}
use Rattle.log_frames.specs.Frames.{frame, frame_at, frames, next, place_after}
use Rattle.log_frames.specs.Header.{first_place, header, header_at}
use Rattle.log_frames.specs.declared.frame.Place.{Place}
use Rattle.log_frames.specs.declared.frame.Stop.{Stop}
use Rattle.log_frames.specs.declared.frame.Stop.TheVariants.{Torn, BadHead, BadDigest}
use Rattle.log_frames.specs.declared.header.HeaderError.{HeaderError}
use Rattle.log_frames.specs.declared.header.HeaderError.TheVariants.{Short}
use Rattle.log_frames.proofs.Frames.{done, first, frame-torn, ok_is}
use Rattle.log_frames.proofs.Headers.{header-again, length-header}
use Rattle.historical_bitmap.specs.History.{kept_under}
use Rattle.commit_log.specs.Accepted.{Accepts}
use Rattle.commit_log.specs.Base.{Base, IsBaseError, base_kept, encode_base}
use Rattle.commit_log.specs.Entries.{Entry, decode_entry, encode_entry}
use Rattle.commit_log.specs.Entries.Entry.{Commit, Rewind}
use Rattle.commit_log.specs.Kept.{Kept, after, after_all}
use Rattle.commit_log.specs.Logs.{GoesOn, IsLog, MayFollow, bodies, log_bytes}
use Rattle.commit_log.specs.Recovered.{BeginsWith, HasBadBase, HasBadEntry, HasFirstFrame, IsEntryError, IsGoodUpTo, IsRecoverError, LacksBase, LacksFrame, ReadsTo, Recovers}
use Rattle.commit_log.specs.declared.base.BaseError.{BaseError}
use Rattle.commit_log.specs.declared.base.BaseError.TheVariants as base_errors
use Rattle.commit_log.specs.declared.error.EntryError.{EntryError}
use Rattle.commit_log.specs.declared.error.EntryError.TheVariants as errors
use Rattle.commit_log.specs.declared.recovery.Damage.TheVariants as damages
use Rattle.commit_log.specs.declared.recovery.RecoverError.{RecoverError}
use Rattle.commit_log.specs.declared.recovery.RecoverError.TheVariants as recover_errors
use Rattle.commit_log.proofs.Entries.{entry-again, entry_some, not_both, one_encoding, read_is}
use Rattle.commit_log.proofs.LogBytes.{base_some, log_bodies}
use Rattle.commit_log.proofs.Bases.{any_len, one_base, only_memory as base_memory}
use Rattle.commit_log.proofs.Recovering.{after_header, one_log, stops_at}

-- ---- errors of the base and of entries

-- the first frame was read
pub first_frame : (n : ℕ) (bytes rest body left : List ℕ) (place : Place) → bytes ≡ header n ++ rest → place ≡ first_place n → frame_at place rest ≡ done (body, left) → HasFirstFrame n bytes
first_frame n bytes rest body left place h is f = record { rest = rest; header_is = h; body = body; left = left; whole = ap (λ (p : Place). frame_at p rest) (sym is) ∙ f }

-- its body was not read as a base
pub bad_base : (n : ℕ) (bytes rest body left : List ℕ) (place : Place) (e : BaseError) (r : RecoverError) → bytes ≡ header n ++ rest → place ≡ first_place n → frame_at place rest ≡ done (body, left) → IsBaseError n body e
    → (r ≡ recover_errors.Memory alloc_error) ⊎ ((r ≡ recover_errors.Damaged place.at (damages.Base e)) × (e ≢ base_errors.Memory alloc_error)) → IsRecoverError n bytes r
unfolding first_frame
bad_base n bytes rest body left place e r h is f why (inl memory) = subst (IsRecoverError n bytes) (sym memory) (first_frame n bytes rest body left place h is f)
bad_base n bytes rest body left place e r h is f why (inr bad) =
    subst (IsRecoverError n bytes) (sym bad.0)
    (record { first = first_frame n bytes rest body left place h is f; at_is = ap (λ (p : Place). p.at) is; error = why; of_bytes = bad.1 })

-- an allocation failed after it
pub memory_error : {X : Type 0} (n : ℕ) (bytes : List ℕ) (r : Result X RecoverError) → HasFirstFrame n bytes → IfErr r (λ e. e ≡ recover_errors.Memory alloc_error) → IfErr r (IsRecoverError n bytes)
memory_error n bytes (Ok x) f is = tt
memory_error n bytes (Err e) f is = subst (IsRecoverError n bytes) (sym is) f

-- no whole frame begins at the place after a log
pub lacks_frame : (n : ℕ) (bytes rest : List ℕ) (state : Kept) (place : Place) (why : Stop) → ReadsTo n bytes state place rest → frame_at place rest ≡ Err why → LacksFrame n bytes place.at why
lacks_frame n bytes rest state place why h f = record { place = place; rest = rest; good = inr (state, h); at_is = refl; stop = f }

-- the body of a frame was not read as an entry that the state accepts
pub bad_entry : (n : ℕ) (bytes rest body left : List ℕ) (state : Kept) (place : Place) (e : EntryError) (r : RecoverError) → ReadsTo n bytes state place rest → frame_at place rest ≡ done (body, left) → IsEntryError n state body e
    → r ≡ recover_errors.Damaged place.at (damages.Entry e) → IsRecoverError n bytes r
bad_entry n bytes rest body left state place e r h f why is =
    subst (IsRecoverError n bytes) (sym is) (record { state = state; place = place; rest = rest; reads = h; at_is = refl; body = body; left = left; whole = f; error = why })

-- an entry that may follow has no error
never_an_error : (n : ℕ) (s : Kept) (e : Entry) (body : List ℕ) (why : EntryError) → MayFollow n s e → body ≡ encode_entry e → IsEntryError n s body why → ⊥
never_an_error n s e body (errors.Decode d) h is why = not_both e d (sym (ap (decode_entry n) is ∙ entry-again n e h.fits) ∙ why)
never_an_error n s e body errors.NoSuchCommit h is why =
    let found : e ≡ Rewind why.0 = read_is e (Rewind why.0) (sym (ap (decode_entry n) is ∙ entry-again n e h.fits) ∙ why.1) in
    let kept : IsSome (kept_under s.history why.0) = subst (Accepts n s) found h.accepted in
    false≢true (subst IsSome why.2 kept)
never_an_error n s e body errors.Number h is why =
    let found : e ≡ Commit why.0 = read_is e (Commit why.0) (sym (ap (decode_entry n) is ∙ entry-again n e h.fits) ∙ why.1) in
    why.2 (subst (Accepts n s) found h.accepted).0
never_an_error n s e body errors.Length h is why =
    let found : e ≡ Commit why.0 = read_is e (Commit why.0) (sym (ap (decode_entry n) is ∙ entry-again n e h.fits) ∙ why.1) in
    why.2.1 (subst (Accepts n s) found h.accepted).1.extent
never_an_error n s e body errors.Chunks h is why =
    let found : e ≡ Commit why.0 = read_is e (Commit why.0) (sym (ap (decode_entry n) is ∙ entry-again n e h.fits) ∙ why.1) in
    why.2.2 (subst (Accepts n s) found h.accepted).1.changed

pub no_frame : {A : Type 0} (x : A) (why : Stop) → done x ≡ Err why → ⊥
no_frame x why e = absurd cc

-- after entries that a log begins with, a whole frame holds the next entry of the log
next_body : (n : ℕ) (s : Kept) (place : Place) (before entries : List Entry) (left rest body behind : List ℕ) (why : Stop) → GoesOn n s before → GoesOn n s entries
    → frames place (map encode_entry before) ++ left ≡ frames place (map encode_entry entries) ++ rest → frame_at (place_after place (map encode_entry before)) left ≡ done (body, behind)
    → frame_at (place_after place (map encode_entry entries)) rest ≡ Err why → (e : Entry) × (body ≡ encode_entry e) × MayFollow n (after_all n s before) e
next_body n s place [] [] left rest body behind why h k same f stop = absurd (no_frame (body, behind) why (sym f ∙ ap (frame_at place) same ∙ stop))
next_body n s place [] (e ∷ es) left rest body behind why h k same f stop =
    let here = ok_is (body, behind) (encode_entry e, frames (next place (encode_entry e)) (map encode_entry es) ++ rest)
    (sym f ∙ ap (frame_at place) same ∙ first place (encode_entry e) (map encode_entry es) rest (record { some = entry_some e; fits = k.0.small })) in
    (e, ap (λ (p : List ℕ × List ℕ). p.0) here, k.0)
next_body n s place (x ∷ xs) [] left rest body behind why h k same f stop =
    absurd (no_frame (encode_entry x, frames (next place (encode_entry x)) (map encode_entry xs) ++ left) why
    (sym (first place (encode_entry x) (map encode_entry xs) left (record { some = entry_some x; fits = h.0.small })) ∙ ap (frame_at place) same ∙ stop))
next_body n s place (x ∷ xs) (e ∷ es) left rest body behind why h k same f stop =
    let both = ok_is (encode_entry x, frames (next place (encode_entry x)) (map encode_entry xs) ++ left) (encode_entry e, frames (next place (encode_entry e)) (map encode_entry es) ++ rest)
    (sym (first place (encode_entry x) (map encode_entry xs) left (record { some = entry_some x; fits = h.0.small })) ∙ ap (frame_at place) same ∙ first place (encode_entry e) (map encode_entry es) rest (record { some = entry_some e; fits = k.0.small })) in
    let one : e ≡ x = one_encoding n e x k.0.fits h.0.fits (ap (λ (p : List ℕ × List ℕ). p.0) (sym both)) in
    let rests : frames (next place (encode_entry x)) (map encode_entry xs) ++ left ≡ frames (next place (encode_entry e)) (map encode_entry es) ++ rest = ap (λ (p : List ℕ × List ℕ). p.1) both in
    next_body n (after n s x) (next place (encode_entry x)) xs es left rest body behind why h.1 (subst (λ (y : Entry). GoesOn n (after n s y) es) one k.1)
    (rests ∙ ap (λ (y : Entry). frames (next place (encode_entry y)) (map encode_entry es) ++ rest) one) f (ap (λ (y : Entry). frame_at (place_after (next place (encode_entry y)) (map encode_entry es)) rest) (sym one) ∙ stop)

-- ---- what recovers has no error

-- the frame after the header of a log is that of its base
pub base_frame : (n : ℕ) (base : Base) (entries : List Entry) (bytes rest left : List ℕ) → BeginsWith n bytes base entries rest → bytes ≡ header n ++ left
    → frame_at (first_place n) left ≡ done (encode_base n base, frames (next (first_place n) (encode_base n base)) (map encode_entry entries) ++ rest)
base_frame n base entries bytes rest left b e =
    ap (frame_at (first_place n)) (after_header n base entries bytes rest left b.whole e) ∙ first (first_place n) (encode_base n base) (map encode_entry entries) rest (log_bodies n base entries b.log).0

-- so that bytes which are read to a place have a first frame
pub has_first : (n : ℕ) (bytes : List ℕ) (state : Kept) (place : Place) (rest : List ℕ) → ReadsTo n bytes state place rest → HasFirstFrame n bytes
has_first n bytes state place rest h =
    let all : List ℕ = frames (first_place n) (bodies n h.base h.entries) in
    let is : bytes ≡ header n ++ (all ++ rest) = h.begins.whole ∙ append_assoc (header n) all rest in
    record {
      rest = all ++ rest;
      header_is = is;
      body = encode_base n h.base;
      left = frames (next (first_place n) (encode_base n h.base)) (map encode_entry h.entries) ++ rest;
      whole = base_frame n h.base h.entries bytes rest (all ++ rest) h.begins is;
    }

-- the first frame is not whole and torn
no_first : (n : ℕ) (bytes : List ℕ) → LacksBase n bytes → HasFirstFrame n bytes → ⊥
no_first n bytes h f =
    let same : h.rest ≡ f.rest = append_cancel_left (header n) h.rest f.rest (sym h.header_is ∙ f.header_is) in
    no_frame (f.body, f.left) Torn (sym f.whole ∙ ap (frame_at (first_place n)) (sym same) ∙ h.stop)

-- a header is read
pub header_there : (n : ℕ) (bytes rest : List ℕ) (e : HeaderError) → n < 2 ^ 64 → bytes ≡ header n ++ rest → header_at n bytes ≡ Err e → ⊥
header_there n bytes rest e small is why = cc (header-again n rest small, is, why)

-- a rest at which the log does not go on begins with a torn frame
stops_torn : (n : ℕ) (bytes : List ℕ) (state : Kept) (place : Place) (torn : Bool) (at : ℕ) (why : Stop) → 0 < n → Recovers n bytes state place torn → LacksFrame n bytes at why → why ≡ Torn
stops_torn n bytes state place torn at why pos h l =
    let r = h.reads in
    elim l.good [
      | inl a ↦
          let one : frame_at (first_place n) l.rest ≡ done (encode_base n r.base, frames (next (first_place n) (encode_base n r.base)) (map encode_entry r.entries) ++ h.rest) = base_frame n r.base r.entries bytes h.rest l.rest r.begins a.0 in
          absurd (no_frame (encode_base n r.base, frames (next (first_place n) (encode_base n r.base)) (map encode_entry r.entries) ++ h.rest) why (sym one ∙ ap (λ (p : Place). frame_at p l.rest) (sym a.1) ∙ l.stop))
      | inr b ↦
          let d = b.1 in
          (one_log n bytes d.base r.base d.entries r.entries l.rest h.rest why Torn pos d.begins r.begins (stops_at n bytes b.0 l.place l.rest why d l.stop) (stops_at n bytes state place h.rest Torn r h.stop)).3
    ]

no_bad_entry : (n : ℕ) (bytes : List ℕ) (state : Kept) (place : Place) (torn : Bool) (at : ℕ) (e : EntryError) → 0 < n → Recovers n bytes state place torn → HasBadEntry n bytes at e → ⊥
no_bad_entry n bytes state place torn at e pos h b =
    let r = h.reads in
    let d = b.reads in
    let start : Place = first_place n in
    let all : List ℕ = frames start (bodies n d.base d.entries) in
    let is : bytes ≡ header n ++ (all ++ b.rest) = d.begins.whole ∙ append_assoc (header n) all b.rest in
    let both = ok_is (encode_base n d.base, frames (next start (encode_base n d.base)) (map encode_entry d.entries) ++ b.rest) (encode_base n r.base, frames (next start (encode_base n r.base)) (map encode_entry r.entries) ++ h.rest)
    (sym (base_frame n d.base d.entries bytes b.rest (all ++ b.rest) d.begins is) ∙ base_frame n r.base r.entries bytes h.rest (all ++ b.rest) r.begins is) in
    let one : r.base ≡ d.base = one_base n r.base d.base pos r.begins.log.fits d.begins.log.fits (ap (λ (p : List ℕ × List ℕ). p.0) (sym both)) in
    let rests : frames (next start (encode_base n d.base)) (map encode_entry d.entries) ++ b.rest ≡ frames (next start (encode_base n r.base)) (map encode_entry r.entries) ++ h.rest = ap (λ (p : List ℕ × List ℕ). p.1) both in
    let found = next_body n (base_kept d.base) (next start (encode_base n d.base)) d.entries r.entries b.rest h.rest b.body b.left Torn d.begins.log.goes_on (subst (λ (y : Base). GoesOn n (base_kept y) r.entries) one r.begins.log.goes_on)
    (rests ∙ ap (λ (y : Base). frames (next start (encode_base n y)) (map encode_entry r.entries) ++ h.rest) one)
    (ap (λ (p : Place). frame_at p b.rest) (sym d.place_is) ∙ b.whole)
    (ap (λ (y : Base). frame_at (place_after (next start (encode_base n y)) (map encode_entry r.entries)) h.rest) (sym one) ∙ stops_at n bytes state place h.rest Torn r h.stop) in
    never_an_error n b.state found.0 b.body e (subst (λ (s : Kept). MayFollow n s found.0) (sym d.state_is) found.2) found.1 b.error

no_bad_base : (n : ℕ) (bytes : List ℕ) (state : Kept) (place : Place) (torn : Bool) (at : ℕ) (e : BaseError) → 0 < n → Recovers n bytes state place torn → HasBadBase n bytes at e → ⊥
no_bad_base n bytes state place torn at e pos h b =
    let r = h.reads in
    let same = ok_is (b.first.body, b.first.left) (encode_base n r.base, frames (next (first_place n) (encode_base n r.base)) (map encode_entry r.entries) ++ h.rest)
    (sym b.first.whole ∙ base_frame n r.base r.entries bytes h.rest b.first.rest r.begins b.first.header_is) in
    b.of_bytes (base_memory n any_len r.base b.first.body e pos b.error r.begins.log.fits refl (ap (λ (p : List ℕ × List ℕ). p.0) same))

-- bytes that recover to a state are refused by nothing but out of memory
pub only_memory : (n : ℕ) (bytes : List ℕ) (state : Kept) (place : Place) (torn : Bool) (e : RecoverError) → IsWidth n → Recovers n bytes state place torn → IsRecoverError n bytes e
    → e ≡ recover_errors.Memory alloc_error
only_memory n bytes state place torn (recover_errors.Header e) w h why =
    let f = has_first n bytes state place h.rest h.reads in absurd (header_there n bytes f.rest e (omega (arith, w.fits)) f.header_is why)
only_memory n bytes state place torn recover_errors.NoBase w h why = absurd (no_first n bytes why (has_first n bytes state place h.rest h.reads))
only_memory n bytes state place torn (recover_errors.Damaged at damages.Head) w h why = absurd (cc (stops_torn n bytes state place torn at BadHead w.positive h why))
only_memory n bytes state place torn (recover_errors.Damaged at damages.Digest) w h why = absurd (cc (stops_torn n bytes state place torn at BadDigest w.positive h why))
only_memory n bytes state place torn (recover_errors.Damaged at (damages.Base e)) w h why = absurd (no_bad_base n bytes state place torn at e w.positive h why)
only_memory n bytes state place torn (recover_errors.Damaged at (damages.Entry e)) w h why = absurd (no_bad_entry n bytes state place torn at e w.positive h why)
only_memory n bytes state place torn (recover_errors.Memory f) w h why = refl

-- ---- bytes that end before the first frame does

pub long : (n : ℕ) (bytes rest : List ℕ) → bytes ≡ header n ++ rest → 32 ≤ length bytes
long n bytes rest e = omega (arith, ap length e, length-append (header n) rest, length-header n)

pub long_if_read : (n : ℕ) (bytes : List ℕ) (state : Kept) (place : Place) (rest : List ℕ) → ReadsTo n bytes state place rest → 32 ≤ length bytes
long_if_read n bytes state place rest h = let f = has_first n bytes state place rest h in long n bytes f.rest f.header_is

long_if_good : (n : ℕ) (bytes : List ℕ) (place : Place) (rest : List ℕ) → IsGoodUpTo n bytes place rest → 32 ≤ length bytes
long_if_good n bytes place rest (inl a) = long n bytes rest a.0
long_if_good n bytes place rest (inr b) = long_if_read n bytes b.0 place rest b.1

pub short_header : (n : ℕ) (bytes : List ℕ) (e : HeaderError) → length bytes < 32 → header_at n bytes ≡ Err e → e ≡ Short
unfolding header_at
short_header n bytes e lt why = let short : ltb (length bytes) 32 ≡ true = lt-ltb (length bytes) 32 lt in cc (rw short at why)

-- fewer bytes than a header has
pub short_error : {X : Type 0} (n : ℕ) (bytes : List ℕ) (r : Result X RecoverError) → IfOk r (λ x. 32 ≤ length bytes) → IfErr r (IsRecoverError n bytes) → length bytes < 32 → r ≡ Err (recover_errors.Header Short)
short_error n bytes (Ok x) ok why lt = absurd (omega (arith, ok))
short_error n bytes (Err (recover_errors.Header e)) ok why lt = ap (λ (x : HeaderError). Err (recover_errors.Header x)) (short_header n bytes e lt why)
short_error n bytes (Err recover_errors.NoBase) ok why lt = absurd (omega (arith, long n bytes why.rest why.header_is))
short_error n bytes (Err (recover_errors.Damaged at damages.Head)) ok why lt = absurd (omega (arith, long_if_good n bytes why.place why.rest why.good))
short_error n bytes (Err (recover_errors.Damaged at damages.Digest)) ok why lt = absurd (omega (arith, long_if_good n bytes why.place why.rest why.good))
short_error n bytes (Err (recover_errors.Damaged at (damages.Base e))) ok why lt = absurd (omega (arith, long n bytes why.first.rest why.first.header_is))
short_error n bytes (Err (recover_errors.Damaged at (damages.Entry e))) ok why lt = absurd (omega (arith, long_if_read n bytes why.state why.place why.rest why.reads))
short_error n bytes (Err (recover_errors.Memory f)) ok why lt = absurd (omega (arith, long n bytes why.rest why.header_is))

-- a log that is cut off after its header, and before the end of its base
pub base_cut : (n : ℕ) (base : Base) (entries : List Entry) (m : ℕ) (bytes : List ℕ) → IsLog n base entries → 32 ≤ m → m < length (log_bytes n base []) → bytes ≡ take m (log_bytes n base entries) → LacksBase n bytes
base_cut n base entries m bytes h from to is =
    let one : List ℕ = frame (first_place n) (encode_base n base) in
    let later : List ℕ = frames (next (first_place n) (encode_base n base)) (map encode_entry entries) in
    let k : ℕ = m - 32 in
    let more : m ≡ length (header n) + k = omega (arith, length-header n) in
    let less : k < length one = omega (arith, length-append (header n) (one ++ []), length-header n, ap length (append-nil one)) in
    let starts : take k (one ++ later) ≡ take k one = take-append-le k one later (omega arith) in
    record {
      rest = take k one;
      header_is = is ∙ ap (λ (i : ℕ). take i (header n ++ (one ++ later))) more ∙ take-append-add (header n) (one ++ later) k ∙ ap (λ (x : List ℕ). header n ++ x) starts;
      stop = frame-torn (first_place n) (encode_base n base) k (record { some = base_some n base; fits = h.small }) less;
    }

-- what lacks its base stops there
lacks_no_frame : (n : ℕ) (bytes : List ℕ) (at : ℕ) (why : Stop) → LacksBase n bytes → LacksFrame n bytes at why → why ≡ Torn
lacks_no_frame n bytes at why h l =
    elim l.good [
      | inl a ↦
          let same : l.rest ≡ h.rest = append_cancel_left (header n) l.rest h.rest (sym a.0 ∙ h.header_is) in
          let stop : frame_at (first_place n) h.rest ≡ Err why = ap (frame_at (first_place n)) (sym same) ∙ ap (λ (p : Place). frame_at p l.rest) (sym a.1) ∙ l.stop in
          cc (h.stop, stop)
      | inr b ↦ absurd (no_first n bytes h (has_first n bytes b.0 l.place l.rest b.1))
    ]

pub base_error_of : {X : Type 0} (n : ℕ) (bytes : List ℕ) (r : Result X RecoverError) → IsWidth n → LacksBase n bytes → IfOk r (λ x. HasFirstFrame n bytes) → IfErr r (IsRecoverError n bytes) → r ≡ Err recover_errors.NoBase
base_error_of n bytes (Ok x) w h ok why = absurd (no_first n bytes h ok)
base_error_of n bytes (Err (recover_errors.Header e)) w h ok why = absurd (header_there n bytes h.rest e (omega (arith, w.fits)) h.header_is why)
base_error_of n bytes (Err recover_errors.NoBase) w h ok why = refl
base_error_of n bytes (Err (recover_errors.Damaged at damages.Head)) w h ok why = absurd (cc (lacks_no_frame n bytes at BadHead h why))
base_error_of n bytes (Err (recover_errors.Damaged at damages.Digest)) w h ok why = absurd (cc (lacks_no_frame n bytes at BadDigest h why))
base_error_of n bytes (Err (recover_errors.Damaged at (damages.Base e))) w h ok why = absurd (no_first n bytes h why.first)
base_error_of n bytes (Err (recover_errors.Damaged at (damages.Entry e))) w h ok why = absurd (no_first n bytes h (has_first n bytes why.state why.place why.rest why.reads))
base_error_of n bytes (Err (recover_errors.Memory f)) w h ok why = absurd (no_first n bytes h why)
