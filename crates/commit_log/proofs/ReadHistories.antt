-- A history that is read commit by commit, and why bytes are not read as one.
use Rattle.std.proofs.Common.{◌≡◌, ◌≢◌, ◌⊎◌, inl, inr, ℕ, zero, suc, ◌+◌, ◌-◌, ◌*◌, ◌^◌, ◌<◌, ◌≤◌, Bool, true, List, [], ◌∷◌, ◌++◌, length, map, take, drop, Result, Err, Option, Some, None, refl, sym, ap, subst, ◌∙◌, append_assoc, arith}
use Rattle.std.specs.Prelude.{IfSome, alloc_error, slice_get}
use Rattle.std.specs.List.{AllByRecursion}
use Rattle.std.proofs.lemmas.Bool.{cases_lt, false≢true}
use Rattle.std.proofs.lemmas.List.{append-nil, length-append, length-drop, length-take, take-append-drop, take-append-le, take_at}
use Rattle.bitmap_bytes.specs.Chunk.{IsWidth}
use Rattle.bitmap_core.specs.PrunedBits.{PrunedBits, bit_len}
use Rattle.log_frames.specs.Frames.{IsBody, frame, frame_at, frames, next, place_after}
use Rattle.log_frames.specs.Header.{first_place, header}
use Rattle.log_frames.specs.declared.frame.Place.{Place}
use Rattle.log_frames.specs.declared.frame.Stop.{Stop}
use Rattle.log_frames.specs.declared.frame.Stop.TheVariants.{Torn, BadHead, BadDigest}
use Rattle.log_frames.proofs.Frames.{done, first, frame-again, frame-torn, ok_is}
use Rattle.log_frames.proofs.Headers.{length-header}
use Rattle.log_frames.specs.declared.header.HeaderError.TheVariants.{Short}
use Rattle.commit_log.specs.Accepted.{Accepts, IsChangeError}
use Rattle.commit_log.specs.Base.{Base, FitsBase, IsBaseErrorWithin, base_kept, encode_base, past_count}
use Rattle.commit_log.specs.Entries.{Change, Entry, FitsChange, encode_entry}
use Rattle.commit_log.specs.Entries.Entry.{Commit, Rewind, DropBefore, Clear}
use Rattle.commit_log.specs.History.{HasLog, IsHistory, commits_from, history_base, history_bytes, history_entries, later_commits}
use Rattle.commit_log.specs.Kept.{Kept, after, after_all, applied, change_to}
use Rattle.commit_log.specs.Logs.{GoesOn, IsLog, MayFollow, bodies, log_bytes, place_of, state_of}
use Rattle.commit_log.specs.Reading.{BeginsWithHistory, CommitsNext, HasBase, HasNextError, HasOtherBits, IsCommitError, IsCommitWithin, IsHistoryError, IsNextError, IsWithin, LacksPart, Ranges, ReadsPart, decode_commit, retained_after, stop_error}
use Rattle.commit_log.specs.Recovered.{BeginsWith, HasFirstFrame}
use Rattle.commit_log.specs.declared.base.BaseError.{BaseError}
use Rattle.commit_log.specs.declared.base.BaseError.TheVariants.{Memory}
use Rattle.commit_log.specs.declared.base.Past.{Past}
use Rattle.commit_log.specs.declared.base.Past.TheVariants.{NoCommit, Dropped, KeptUnder}
use Rattle.commit_log.specs.declared.error.EntryError.{EntryError}
use Rattle.commit_log.specs.declared.error.EntryError.TheVariants as errors
use Rattle.commit_log.specs.declared.reading.HistoryError.{HistoryError}
use Rattle.commit_log.specs.declared.reading.HistoryError.TheVariants as history_errors
use Rattle.commit_log.proofs.Bases.{base_none, one_base, only_memory as base_memory}
use Rattle.commit_log.proofs.Entries.{IsBytes, change-again, change-takes, entry_some, not_both, one_encoding, read, read_is}
use Rattle.commit_log.proofs.Histories.{history_is_log, history_made}
use Rattle.commit_log.proofs.RecoverErrors.{base_frame, header_there, long, no_frame, short_header}
use Rattle.commit_log.proofs.Recovering.{after_header}
use Rattle.commit_log.proofs.LogBytes.{base_some, bytes_more, goes_on_more, place_more, state_more}

-- ---- commits

-- a commit is encoded as it was read
pub commit-takes : (n : ℕ) (body : List ℕ) (c : Change) → IsBytes body → decode_commit n body ≡ read c → (body ≡ encode_entry (Commit c)) × FitsChange n c
unfolding decode_commit encode_entry
commit-takes n [] c fits e = absurd cc
commit-takes n (zero ∷ rest) c fits e = absurd cc
commit-takes n (suc zero ∷ rest) c fits e = let t = change-takes n rest c (λ i. fits (suc i)) e in (ap (λ (x : List ℕ). 1 ∷ x) t.0, t.1)
commit-takes n (suc (suc kind) ∷ rest) c fits e = absurd cc

-- and read again
pub commit-again : (n : ℕ) (c : Change) → FitsChange n c → decode_commit n (encode_entry (Commit c)) ≡ read c
unfolding decode_commit encode_entry
commit-again n c h = change-again n c h

-- the error of a change is that of the commit in a body
pub change_stops : (n : ℕ) (range : ℕ → Bool) (s : Kept) (body : List ℕ) (c : Change) (e : EntryError) → decode_commit n body ≡ read c → IsChangeError n s.current s.last c e → IsNextError n range s body (history_errors.Entry e)
change_stops n range s body c errors.Number is why = (c, is, why)
change_stops n range s body c errors.Length is why = (c, is, why)
change_stops n range s body c errors.Chunks is why = (c, is, why)
change_stops n range s body c errors.NoSuchCommit is why = absurd why
change_stops n range s body c (errors.Decode d) is why = absurd why

-- a commit that was read and applied
pub commits_next : (n : ℕ) (range : ℕ → Bool) (s new : Kept) (body : List ℕ) (c : Change) → IsBytes body → decode_commit n body ≡ read c → Accepts n s (Commit c) → range (retained_after n c) ≡ true → new ≡ after n s (Commit c)
    → CommitsNext n range s body new
commits_next n range s new body c fits is accepted within made =
    let t = commit-takes n body c fits is in
    record { next = record { entry = Commit c; encoded = t.0; fits = t.1; accepted = accepted; new_is = made }; within = within }

-- ---- reading on

all_more : (P : Entry → Type 0) (xs : List Entry) (x : Entry) → AllByRecursion P xs → P x → AllByRecursion P (xs ++ x ∷ [])
all_more P [] x h p = (p, tt)
all_more P (y ∷ ys) x h p = (h.0, all_more P ys x h.1 p)

length_more : (xs : List Entry) (x : Entry) → length (xs ++ x ∷ []) ≡ length xs + 1
length_more [] x = refl
length_more (y ∷ ys) x = let e = length_more ys x in omega (arith, e)

-- a base that was read begins a history
pub part_begun : (n : ℕ) (r : Ranges) (bytes rest body left : List ℕ) (base : Base) (state : Kept) (count : ℕ) → bytes ≡ header n ++ rest → rest ≡ frame (first_place n) body ++ left → IsBody body → body ≡ encode_base n base → FitsBase n base
    → state ≡ base_kept base → r.bits (length base.bits.bits) ≡ true → count ≡ past_count base.past → r.commits count ≡ true → ReadsPart n r bytes state (next (first_place n) body) count left
part_begun n r bytes rest body left base state count h f size is fits made bits count_is admitted =
    let one : List ℕ = frame (first_place n) (encode_base n base) in
    record {
      reads = record {
        base = base;
        entries = [];
        begins = record {
          whole = h
              ∙ ap (λ (x : List ℕ). header n ++ x) (f ∙ ap (λ (b : List ℕ). frame (first_place n) b ++ left) is)
              ∙ sym (append_assoc (header n) one left)
              ∙ ap (λ (x : List ℕ). (header n ++ x) ++ left) (sym (append-nil one));
          log = record { fits = fits; small = subst (λ (b : List ℕ). length b < 2 ^ 64) is size.fits; goes_on = tt };
        };
        state_is = made;
        place_is = ap (next (first_place n)) is;
      };
      bits = bits;
      count = subst (λ (k : ℕ). r.commits k ≡ true) count_is admitted;
      commits = tt;
      left_is = omega (arith, count_is);
    }

-- a commit that was read goes on with it
pub part_more : (n : ℕ) (r : Ranges) (bytes rest body behind : List ℕ) (state new : Kept) (place : Place) (left : ℕ) → 0 < left → ReadsPart n r bytes state place left rest → rest ≡ frame place body ++ behind → IsBody body
    → CommitsNext n r.bits state body new → ReadsPart n r bytes new (next place body) (left - 1) behind
part_more n r bytes rest body behind state new place left some p f size m =
    let h = p.reads in
    let e : Entry = m.next.entry in
    let before : List ℕ = log_bytes n h.base h.entries in
    let one : List ℕ = frame (place_of n h.base h.entries) (encode_entry e) in
    let is : rest ≡ one ++ behind = f ∙ ap (λ (b : List ℕ). frame place b ++ behind) m.next.encoded ∙ ap (λ (p : Place). frame p (encode_entry e) ++ behind) h.place_is in
    let follows : MayFollow n (state_of n h.base h.entries) e = record {
      fits = m.next.fits;
      small = subst (λ (b : List ℕ). length b < 2 ^ 64) m.next.encoded size.fits;
      accepted = subst (λ (s : Kept). Accepts n s e) h.state_is m.next.accepted;
    } in
    record {
      reads = record {
        base = h.base;
        entries = h.entries ++ e ∷ [];
        begins = record {
          whole = h.begins.whole
              ∙ ap (λ (x : List ℕ). before ++ x) is
              ∙ sym (append_assoc before one behind)
              ∙ ap (λ (x : List ℕ). x ++ behind) (sym (bytes_more n h.base h.entries e));
          log = record { fits = h.begins.log.fits; small = h.begins.log.small; goes_on = goes_on_more n (base_kept h.base) h.entries e h.begins.log.goes_on follows };
        };
        state_is = m.next.new_is ∙ ap (λ (s : Kept). after n s e) h.state_is ∙ sym (state_more n (base_kept h.base) h.entries e);
        place_is = ap (next place) m.next.encoded ∙ ap (λ (p : Place). next p (encode_entry e)) h.place_is ∙ sym (place_more n h.base h.entries e);
      };
      bits = p.bits;
      count = p.count;
      commits = all_more (IsCommitWithin n r.bits) h.entries e p.commits m.within;
      left_is = omega (arith, length_more h.entries e, p.left_is, some);
    }

-- ---- what was read is a history

-- commits that are accepted one after another are those of the states that they make
record AsHistory (n : ℕ) (range : ℕ → Bool) (from : ℕ × PrunedBits) (history : List (ℕ × PrunedBits)) (entries : List Entry) : Type 0 where
  later : List (ℕ × PrunedBits)
  end : ℕ × PrunedBits
  commits : commits_from n from.1 later ≡ entries
  count : length later ≡ length entries
  within : AllByRecursion (λ (kept : ℕ × PrunedBits). range (length kept.1.bits) ≡ true) later
  made : after_all n (record { current = from.1; history = history; last = Some from.0 }) entries ≡ record { current = end.1; history = history ++ later; last = Some end.0 }
  end_is : slice_get (from ∷ later) (length later) ≡ Some end
  end_within : range (length from.1.bits) ≡ true → range (length end.1.bits) ≡ true

-- the number of retained bits of the state that a change leads to
retained_is : (n : ℕ) (c : Change) (new : PrunedBits) → bit_len n new ≡ c.len → new.pruned ≡ c.pruned → length new.bits ≡ retained_after n c
retained_is n c new len pruned = let p : 8 * n * new.pruned ≡ 8 * n * c.pruned = ap (λ (k : ℕ). 8 * n * k) pruned in omega (arith, len, p)

as_history : (n : ℕ) (range : ℕ → Bool) (from : ℕ × PrunedBits) (history : List (ℕ × PrunedBits)) (entries : List Entry) → GoesOn n (record { current = from.1; history = history; last = Some from.0 }) entries
    → AllByRecursion (IsCommitWithin n range) entries → AsHistory n range from history entries
as_history n range from history [] h w = record {
  later = [];
  end = from;
  commits = refl;
  count = refl;
  within = tt;
  made = let none : history ++ [] ≡ history = append-nil history in λ i. record { current = from.1; history = sym none i; last = Some from.0 };
  end_is = refl;
  end_within = λ first. first;
}
as_history n range from history (Commit c ∷ es) h w =
    let new : PrunedBits = applied n from.1 c in
    let kept : ℕ × PrunedBits = (c.number, new) in
    let canonical : change_to n c.number from.1 new ≡ c = h.0.accepted.1.changed in
    let rest = as_history n range kept (history ++ kept ∷ []) es h.1 w.1 in
    let within : range (length new.bits) ≡ true = ap range (retained_is n c new (ap (λ (x : Change). x.len) canonical) (ap (λ (x : Change). x.pruned) canonical)) ∙ w.0 in
    record {
      later = kept ∷ rest.later;
      end = rest.end;
      commits = λ i. Commit (canonical i) ∷ rest.commits i;
      count = omega (arith, rest.count);
      within = (within, rest.within);
      made = rest.made ∙ (λ i. record { current = rest.end.1; history = append_assoc history (kept ∷ []) rest.later i; last = Some rest.end.0 });
      end_is = rest.end_is;
      end_within = λ first. rest.end_within within;
    }
as_history n range from history (Rewind number ∷ es) h w = absurd w.0
as_history n range from history (DropBefore number ∷ es) h w = absurd w.0
as_history n range from history (Clear ∷ es) h w = absurd w.0

-- a base and entries are those of the history of a state
record IsWhole (n : ℕ) (r : Ranges) (base : Base) (entries : List Entry) (s : Kept) : Type 0 where
  base_is : history_base s ≡ base
  entries_are : history_entries n s ≡ entries
  ends : IsHistory s
  within : IsWithin r s

if_some : {X : Type 0} (o : Option X) (x : X) (P : X → Type 0) → o ≡ Some x → P x → IfSome o P
if_some {X = X} o x P e p = subst (λ (q : Option X). IfSome q P) (sym e) p

kept_whole : (n : ℕ) (r : Ranges) (bits : PrunedBits) (number count : ℕ) (entries : List Entry) → AsHistory n r.bits (number, bits) ((number, bits) ∷ []) entries → r.bits (length bits.bits) ≡ true
    → r.commits count ≡ true → length entries ≡ count → IsWhole n r (record { bits = bits; past = KeptUnder number count }) entries (state_of n (record { bits = bits; past = KeptUnder number count }) entries)
kept_whole n r bits number count entries a first admitted size =
    let all : length a.later ≡ count = a.count ∙ size in
    let place : length ((number, bits) ∷ a.later) - 1 ≡ length a.later = omega arith in
    let there : slice_get ((number, bits) ∷ a.later) (length ((number, bits) ∷ a.later) - 1) ≡ Some a.end = ap (slice_get ((number, bits) ∷ a.later)) place ∙ a.end_is in
    subst (IsWhole n r (record { bits = bits; past = KeptUnder number count }) entries) (sym a.made) (record {
      base_is = λ i. record { bits = bits; past = KeptUnder number (all i) };
      entries_are = a.commits;
      ends = if_some (slice_get ((number, bits) ∷ a.later) (length ((number, bits) ∷ a.later) - 1)) a.end (λ kept. (Some a.end.0 ≡ Some kept.0) × (a.end.1 ≡ kept.1)) there (refl, refl);
      within = record { current = a.end_within first; kept = (first, a.within); count = ap r.commits all ∙ admitted };
    })

whole_of : (n : ℕ) (r : Ranges) (bits : PrunedBits) (past : Past) (entries : List Entry) → GoesOn n (base_kept (record { bits = bits; past = past })) entries → AllByRecursion (IsCommitWithin n r.bits) entries
    → r.bits (length bits.bits) ≡ true → r.commits (past_count past) ≡ true → length entries ≡ past_count past
    → IsWhole n r (record { bits = bits; past = past }) entries (state_of n (record { bits = bits; past = past }) entries)
whole_of n r bits NoCommit [] h w first admitted size = record { base_is = refl; entries_are = refl; ends = tt; within = record { current = first; kept = tt; count = admitted } }
whole_of n r bits NoCommit (e ∷ es) h w first admitted size = absurd (omega (arith, size))
whole_of n r bits (Dropped number) [] h w first admitted size = record { base_is = refl; entries_are = refl; ends = tt; within = record { current = first; kept = tt; count = admitted } }
whole_of n r bits (Dropped number) (e ∷ es) h w first admitted size = absurd (omega (arith, size))
whole_of n r bits (KeptUnder number count) entries h w first admitted size = kept_whole n r bits number count entries (as_history n r.bits (number, bits) ((number, bits) ∷ []) entries h w) first admitted size

-- if no commit is left, the bytes begin with the history of the state
pub part_whole : (n : ℕ) (r : Ranges) (bytes : List ℕ) (state : Kept) (place : Place) (left : ℕ) (rest : List ℕ) → ReadsPart n r bytes state place left rest → left ≡ 0 → BeginsWithHistory n r bytes state rest
part_whole n r bytes state place left rest p none =
    let h = p.reads in
    let all = whole_of n r h.base.bits h.base.past h.entries h.begins.log.goes_on p.commits p.bits p.count (omega (arith, p.left_is, none)) in
    let made : IsWhole n r h.base h.entries state = subst (IsWhole n r h.base h.entries) (sym h.state_is) all in
    record {
      whole = h.begins.whole ∙ (λ i. log_bytes n (sym made.base_is i) (sym made.entries_are i) ++ rest);
      log = subst (λ (y : Base). IsLog n y (history_entries n state)) (sym made.base_is) (subst (IsLog n h.base) (sym made.entries_are) h.begins.log);
      ends = made.ends;
      within = made.within;
    }

-- ---- errors

-- the frame of the base is whole
pub part_first : (n : ℕ) (r : Ranges) (bytes : List ℕ) (state : Kept) (place : Place) (left : ℕ) (rest : List ℕ) → 0 < n → ReadsPart n r bytes state place left rest → HasBase n r bytes
part_first n r bytes state place left rest pos p =
    let h = p.reads in
    let all : List ℕ = frames (first_place n) (bodies n h.base h.entries) in
    let is : bytes ≡ header n ++ (all ++ rest) = h.begins.whole ∙ append_assoc (header n) all rest in
    record {
      first = record {
        rest = all ++ rest;
        header_is = is;
        body = encode_base n h.base;
        left = frames (next (first_place n) (encode_base n h.base)) (map encode_entry h.entries) ++ rest;
        whole = base_frame n h.base h.entries bytes rest (all ++ rest) h.begins is;
      };
      none = base_none n r.bits h.base (encode_base n h.base) pos h.begins.log.fits p.bits refl;
    }

-- a base that was read is there
pub has_base : (n : ℕ) (r : Ranges) (bytes rest body left : List ℕ) (base : Base) → 0 < n → bytes ≡ header n ++ rest → frame_at (first_place n) rest ≡ done (body, left) → body ≡ encode_base n base → FitsBase n base
    → r.bits (length base.bits.bits) ≡ true → HasBase n r bytes
has_base n r bytes rest body left base pos h f is fits bits =
    record { first = record { rest = rest; header_is = h; body = body; left = left; whole = f }; none = base_none n r.bits base body pos fits bits is }

-- a base was not read
pub base_stops : (n : ℕ) (r : Ranges) (bytes rest body left : List ℕ) (e : BaseError) (found : HistoryError) → bytes ≡ header n ++ rest → frame_at (first_place n) rest ≡ done (body, left) → IsBaseErrorWithin n r.bits body e
    → ((found ≡ history_errors.Memory alloc_error) × (e ≡ Memory alloc_error)) ⊎ ((found ≡ history_errors.Base e) × (e ≢ Memory alloc_error)) → IsHistoryError n r bytes found
base_stops n r bytes rest body left e found h f why is =
    let first : HasFirstFrame n bytes = record { rest = rest; header_is = h; body = body; left = left; whole = f } in
    elim is [
      | inl full ↦ subst (IsHistoryError n r bytes) (sym full.0) (record { first = first; none = subst (IsBaseErrorWithin n r.bits body) full.1 why })
      | inr other ↦ subst (IsHistoryError n r bytes) (sym other.0) (record { first = first; error = why; of_bytes = other.1 })
    ]

-- an error of a frame
pub stops : (n : ℕ) (r : Ranges) (bytes : List ℕ) (stop : Stop) → LacksPart n r bytes stop → IsHistoryError n r bytes (stop_error stop)
stops n r bytes Torn h = h
stops n r bytes BadHead h = h
stops n r bytes BadDigest h = h

-- an error of the next commit
pub next_stops : (n : ℕ) (r : Ranges) (bytes rest body behind : List ℕ) (state : Kept) (place : Place) (left : ℕ) (e : HistoryError) → 0 < n → 0 < left → ReadsPart n r bytes state place left rest
    → frame_at place rest ≡ done (body, behind) → IsNextError n r.bits state body e → IsHistoryError n r bytes e
next_stops n r bytes rest body behind state place left (history_errors.Header e) pos some p whole why = absurd why
next_stops n r bytes rest body behind state place left history_errors.Short pos some p whole why = absurd why
next_stops n r bytes rest body behind state place left history_errors.BadHead pos some p whole why = absurd why
next_stops n r bytes rest body behind state place left history_errors.BadDigest pos some p whole why = absurd why
next_stops n r bytes rest body behind state place left (history_errors.Base e) pos some p whole why = absurd why
next_stops n r bytes rest body behind state place left (history_errors.Count count) pos some p whole why = absurd why
next_stops n r bytes rest body behind state place left (history_errors.Entry e) pos some p whole why = record { state = state; place = place; left = left; rest = rest; some = some; reads = p; body = body; after = behind; whole = whole; error = why }
next_stops n r bytes rest body behind state place left (history_errors.Bits len) pos some p whole why = record { state = state; place = place; left = left; rest = rest; some = some; reads = p; body = body; after = behind; whole = whole; error = why }
next_stops n r bytes rest body behind state place left (history_errors.Memory e) pos some p whole why = part_first n r bytes state place left rest pos p

-- two lists of frames that begin the same bytes have the same first entry
same_heads : (n : ℕ) (s t : Kept) (place : Place) (x e : Entry) (xs es : List Entry) (left rest : List ℕ) → MayFollow n s x → MayFollow n t e → frames place (map encode_entry (x ∷ xs)) ++ left ≡ frames place (map encode_entry (e ∷ es)) ++ rest
    → (e ≡ x) × (frames (next place (encode_entry x)) (map encode_entry xs) ++ left ≡ frames (next place (encode_entry x)) (map encode_entry es) ++ rest)
same_heads n s t place x e xs es left rest h k same =
    let both = ok_is (encode_entry x, frames (next place (encode_entry x)) (map encode_entry xs) ++ left) (encode_entry e, frames (next place (encode_entry e)) (map encode_entry es) ++ rest)
    (sym (first place (encode_entry x) (map encode_entry xs) left (record { some = entry_some x; fits = h.small })) ∙ ap (frame_at place) same ∙ first place (encode_entry e) (map encode_entry es) rest (record { some = entry_some e; fits = k.small })) in
    let one : e ≡ x = one_encoding n e x k.fits h.fits (ap (λ (p : List ℕ × List ℕ). p.0) (sym both)) in
    (one, ap (λ (p : List ℕ × List ℕ). p.1) both ∙ ap (λ (y : Entry). frames (next place (encode_entry y)) (map encode_entry es) ++ rest) one)

one_stop : {A : Type 0} (r : Result A Stop) (why because : Stop) → r ≡ Err why → r ≡ Err because → why ≡ because
one_stop r why because e f = cc

-- ---- frames that are cut off

-- bytes that go on with a tail to a frame with this body: the frame is whole in them, or it is cut off
abbrev IsCutFrame : Place → List ℕ → List ℕ → List ℕ → Type 0
IsCutFrame place body bytes tail = ((0 < length tail) × (frame_at place bytes ≡ Err Torn)) ⊎ ((left : List ℕ) × (frame_at place bytes ≡ done (body, left)))

frame_cut : (place : Place) (body bytes tail behind : List ℕ) → IsBody body → bytes ++ tail ≡ frame place body ++ behind → IsCutFrame place body bytes tail
frame_cut place body bytes tail behind h e = elim (cases_lt (length bytes) (length (frame place body))) [
  | inl few ↦
      let is : bytes ≡ take (length bytes) (frame place body) = sym (take_at bytes tail (length bytes) refl) ∙ ap (take (length bytes)) e ∙ take-append-le (length bytes) (frame place body) behind (omega (arith, few)) in
      let more : 0 < length tail = omega (arith, few, ap length e, length-append bytes tail, length-append (frame place body) behind) in
      inl (more, ap (frame_at place) is ∙ frame-torn place body (length bytes) h few)
  | inr enough ↦
      let k : ℕ = length (frame place body) in
      let starts : take k bytes ≡ frame place body = sym (take-append-le k bytes tail enough) ∙ ap (take k) e ∙ take_at (frame place body) behind k refl in
      let is : bytes ≡ frame place body ++ drop k bytes = sym (take-append-drop k bytes) ∙ ap (λ (x : List ℕ). x ++ drop k bytes) starts in
      inr (drop k bytes, ap (frame_at place) is ∙ frame-again place body (drop k bytes) h)
]

-- ---- a history is read

-- a frame with an entry that may follow, which is whole or cut off
record NextThere (n : ℕ) (range : ℕ → Bool) (state : Kept) (place : Place) (bytes tail : List ℕ) : Type 0 where
  entry : Entry
  follows : MayFollow n state entry
  within : IsCommitWithin n range entry
  found : IsCutFrame place (encode_entry entry) bytes tail

-- of frames after a place, those of some entries are read, and the next one of these entries is there
next_there : (n : ℕ) (range : ℕ → Bool) (s : Kept) (place : Place) (before entries : List Entry) (left tail rest : List ℕ) → GoesOn n s before → GoesOn n s entries → AllByRecursion (IsCommitWithin n range) entries
    → length before < length entries → frames place (map encode_entry before) ++ (left ++ tail) ≡ frames place (map encode_entry entries) ++ rest
    → NextThere n range (after_all n s before) (place_after place (map encode_entry before)) left tail
next_there n range s place before [] left tail rest h k all fewer same = absurd (omega (arith, fewer))
next_there n range s place [] (e ∷ es) left tail rest h k all fewer same =
    let later : List ℕ = frames (next place (encode_entry e)) (map encode_entry es) in
    record {
      entry = e;
      follows = k.0;
      within = all.0;
      found = frame_cut place (encode_entry e) left tail (later ++ rest) (record { some = entry_some e; fits = k.0.small }) (same ∙ append_assoc (frame place (encode_entry e)) later rest);
    }
next_there n range s place (x ∷ xs) (e ∷ es) left tail rest h k all fewer same =
    let both = same_heads n s s place x e xs es (left ++ tail) rest h.0 k.0 same in
    next_there n range (after n s x) (next place (encode_entry x)) xs es left tail rest h.1 (subst (λ (y : Entry). GoesOn n (after n s y) es) both.0 k.1) all.1 (omega (arith, fewer)) both.1

-- two lists of frames that are followed by any bytes, and are the same bytes, are of the same entries, if there are as many
one_list : (n : ℕ) (s : Kept) (place : Place) (xs ys : List Entry) (left rest : List ℕ) → GoesOn n s xs → GoesOn n s ys → length xs ≡ length ys
    → frames place (map encode_entry xs) ++ left ≡ frames place (map encode_entry ys) ++ rest → (xs ≡ ys) × (left ≡ rest)
one_list n s place [] [] left rest h k size same = (refl, same)
one_list n s place [] (y ∷ ys) left rest h k size same = absurd (omega (arith, size))
one_list n s place (x ∷ xs) [] left rest h k size same = absurd (omega (arith, size))
one_list n s place (x ∷ xs) (y ∷ ys) left rest h k size same =
    let both = same_heads n s s place x y xs ys left rest h.0 k.0 same in
    let others = one_list n (after n s x) (next place (encode_entry x)) xs ys left rest h.1 (subst (λ (z : Entry). GoesOn n (after n s z) ys) both.0 k.1) (omega (arith, size)) both.1 in
    ((λ i. sym both.0 i ∷ others.0 i), others.1)

-- bytes that go on with a tail to a log of a base and of as many admitted commits as it counts
record Given (n : ℕ) (r : Ranges) (bytes tail : List ℕ) (base : Base) (entries : List Entry) (rest : List ℕ) : Type 0 where
  begins : BeginsWith n (bytes ++ tail) base entries rest
  bits : r.bits (length base.bits.bits) ≡ true
  count : r.commits (past_count base.past) ≡ true
  commits : AllByRecursion (IsCommitWithin n r.bits) entries
  all : length entries ≡ past_count base.past

-- the first frame has its base, or is cut off
given_first : (n : ℕ) (r : Ranges) (bytes tail : List ℕ) (base : Base) (entries : List Entry) (rest left : List ℕ) → Given n r bytes tail base entries rest → bytes ≡ header n ++ left
    → IsCutFrame (first_place n) (encode_base n base) left tail
given_first n r bytes tail base entries rest left g e =
    let later : List ℕ = frames (next (first_place n) (encode_base n base)) (map encode_entry entries) in
    let is : bytes ++ tail ≡ header n ++ (left ++ tail) = ap (λ (x : List ℕ). x ++ tail) e ∙ append_assoc (header n) left tail in
    frame_cut (first_place n) (encode_base n base) left tail (later ++ rest) (record { some = base_some n base; fits = g.begins.log.small })
    (after_header n base entries (bytes ++ tail) rest (left ++ tail) g.begins.whole is ∙ append_assoc (frame (first_place n) (encode_base n base)) later rest)

-- so a whole first frame has its base
given_base : (n : ℕ) (r : Ranges) (bytes tail : List ℕ) (base : Base) (entries : List Entry) (rest : List ℕ) (f : HasFirstFrame n bytes) → Given n r bytes tail base entries rest → f.body ≡ encode_base n base
given_base n r bytes tail base entries rest f g = elim (given_first n r bytes tail base entries rest f.rest g f.header_is) [
  | inl a ↦ absurd (no_frame (f.body, f.left) Torn (sym f.whole ∙ a.1))
  | inr b ↦ ap (λ (p : List ℕ × List ℕ). p.0) (ok_is (f.body, f.left) (encode_base n base, b.0) (sym f.whole ∙ b.1))
]

-- two logs that the same bytes begin with have one base, and the same bytes come after it
same_start : (n : ℕ) (bytes : List ℕ) (base other : Base) (entries others : List Entry) (rest left : List ℕ) → 0 < n → BeginsWith n bytes base entries rest → BeginsWith n bytes other others left
    → (base ≡ other)
    × (frames (next (first_place n) (encode_base n other)) (map encode_entry others) ++ left ≡ frames (next (first_place n) (encode_base n other)) (map encode_entry entries) ++ rest)
same_start n bytes base other entries others rest left pos b c =
    let start : Place = first_place n in
    let all : List ℕ = frames start (bodies n other others) in
    let is : bytes ≡ header n ++ (all ++ left) = c.whole ∙ append_assoc (header n) all left in
    let both = ok_is (encode_base n other, frames (next start (encode_base n other)) (map encode_entry others) ++ left) (encode_base n base, frames (next start (encode_base n base)) (map encode_entry entries) ++ rest)
    (sym (base_frame n other others bytes left (all ++ left) c is) ∙ base_frame n base entries bytes rest (all ++ left) b is) in
    let one : base ≡ other = one_base n base other pos b.log.fits c.log.fits (ap (λ (p : List ℕ × List ℕ). p.0) (sym both)) in
    (one, ap (λ (p : List ℕ × List ℕ). p.1) both ∙ ap (λ (y : Base). frames (next start (encode_base n y)) (map encode_entry entries) ++ rest) one)

-- a part of it is followed by the next commit
given_next : (n : ℕ) (r : Ranges) (bytes tail : List ℕ) (base : Base) (entries : List Entry) (rest : List ℕ) (state : Kept) (place : Place) (left : ℕ) (behind : List ℕ) → 0 < n → Given n r bytes tail base entries rest → 0 < left
    → ReadsPart n r bytes state place left behind → NextThere n r.bits state place behind tail
given_next n r bytes tail base entries rest state place left behind pos g some p =
    let d = p.reads in
    let before : List ℕ = log_bytes n d.base d.entries in
    let on : BeginsWith n (bytes ++ tail) d.base d.entries (behind ++ tail) = record { whole = ap (λ (x : List ℕ). x ++ tail) d.begins.whole ∙ append_assoc before behind tail; log = d.begins.log } in
    let same = same_start n (bytes ++ tail) base d.base entries d.entries rest (behind ++ tail) pos g.begins on in
    let fewer : length d.entries < length entries = omega (arith, p.left_is, some, g.all, ap (λ (b : Base). past_count b.past) same.0) in
    let found = next_there n r.bits (base_kept d.base) (next (first_place n) (encode_base n d.base)) d.entries entries behind tail rest d.begins.log.goes_on (subst (λ (y : Base). GoesOn n (base_kept y) entries) same.0 g.begins.log.goes_on) g.commits fewer same.1 in
    subst (λ (s : Kept). NextThere n r.bits s place behind tail) (sym d.state_is) (subst (λ (q : Place). NextThere n r.bits (state_of n d.base d.entries) q behind tail) (sym d.place_is) found)

-- so that no frame is missing, unless it is cut off
part_torn : (n : ℕ) (r : Ranges) (bytes tail : List ℕ) (base : Base) (entries : List Entry) (rest : List ℕ) (why : Stop) → 0 < n → Given n r bytes tail base entries rest → LacksPart n r bytes why → (0 < length tail) × (why ≡ Torn)
part_torn n r bytes tail base entries rest why pos g l = elim l.good [
  | inl a ↦ elim (given_first n r bytes tail base entries rest l.rest g a.0) [
    | inl t ↦ (t.0, one_stop (frame_at (first_place n) l.rest) why Torn (ap (λ (p : Place). frame_at p l.rest) (sym a.1) ∙ l.stop) t.1)
    | inr f ↦ absurd (no_frame (encode_base n base, f.0) why (sym f.1 ∙ ap (λ (p : Place). frame_at p l.rest) (sym a.1) ∙ l.stop))
  ]
  | inr b ↦
      let there = given_next n r bytes tail base entries rest b.0 l.place b.1 l.rest pos g b.2 b.3 in
      elim there.found [
        | inl t ↦ (t.0, one_stop (frame_at l.place l.rest) why Torn l.stop t.1)
        | inr f ↦ absurd (no_frame (encode_entry there.entry, f.0) why (sym f.1 ∙ l.stop))
      ]
]

-- a commit that may follow has no error
never_an_error : (n : ℕ) (range : ℕ → Bool) (s : Kept) (e : Entry) (body : List ℕ) (why : EntryError) → MayFollow n s e → IsCommitWithin n range e → body ≡ encode_entry e → IsCommitError n s body why → ⊥
never_an_error n range s (Commit c) body (errors.Decode d) h w is why = not_both c d (sym (ap (decode_commit n) is ∙ commit-again n c h.fits) ∙ why)
never_an_error n range s (Commit c) body errors.NoSuchCommit h w is why = absurd why
never_an_error n range s (Commit c) body errors.Number h w is why =
    let found : c ≡ why.0 = read_is c why.0 (sym (ap (decode_commit n) is ∙ commit-again n c h.fits) ∙ why.1) in
    why.2 (subst (λ (x : Change). Accepts n s (Commit x)) found h.accepted).0
never_an_error n range s (Commit c) body errors.Length h w is why =
    let found : c ≡ why.0 = read_is c why.0 (sym (ap (decode_commit n) is ∙ commit-again n c h.fits) ∙ why.1) in
    why.2.1 (subst (λ (x : Change). Accepts n s (Commit x)) found h.accepted).1.extent
never_an_error n range s (Commit c) body errors.Chunks h w is why =
    let found : c ≡ why.0 = read_is c why.0 (sym (ap (decode_commit n) is ∙ commit-again n c h.fits) ∙ why.1) in
    why.2.2 (subst (λ (x : Change). Accepts n s (Commit x)) found h.accepted).1.changed
never_an_error n range s (Rewind number) body why h w is e = absurd w
never_an_error n range s (DropBefore number) body why h w is e = absurd w
never_an_error n range s Clear body why h w is e = absurd w

-- and leaves an admitted number of bits
always_within : (n : ℕ) (range : ℕ → Bool) (s : Kept) (e : Entry) (body : List ℕ) (len : ℕ) → MayFollow n s e → IsCommitWithin n range e → body ≡ encode_entry e → HasOtherBits n range s body len → ⊥
always_within n range s (Commit c) body len h w is o =
    let found : c ≡ o.change = read_is c o.change (sym (ap (decode_commit n) is ∙ commit-again n c h.fits) ∙ o.decoded) in
    false≢true (sym o.not_admitted ∙ ap range o.len_is ∙ ap (λ (x : Change). range (retained_after n x)) (sym found) ∙ w)
always_within n range s (Rewind number) body len h w is o = absurd w
always_within n range s (DropBefore number) body len h w is o = absurd w
always_within n range s Clear body len h w is o = absurd w

-- a whole frame after a part of it has the next commit
next_body : (n : ℕ) (r : Ranges) (bytes tail : List ℕ) (base : Base) (entries : List Entry) (rest : List ℕ) (e : HistoryError) (h : HasNextError n r bytes e) → 0 < n → Given n r bytes tail base entries rest
    → (there : NextThere n r.bits h.state h.place h.rest tail) × (h.body ≡ encode_entry there.entry)
next_body n r bytes tail base entries rest e h pos g =
    let there = given_next n r bytes tail base entries rest h.state h.place h.left h.rest pos g h.some h.reads in
    elim there.found [
      | inl t ↦ absurd (no_frame (h.body, h.after) Torn (sym h.whole ∙ t.1))
      | inr f ↦ (there, ap (λ (p : List ℕ × List ℕ). p.0) (ok_is (h.body, h.after) (encode_entry there.entry, f.0) (sym h.whole ∙ f.1)))
    ]

-- the header is there, if the bytes are long enough
given_header : (n : ℕ) (r : Ranges) (bytes tail : List ℕ) (base : Base) (entries : List Entry) (rest : List ℕ) → Given n r bytes tail base entries rest → 32 ≤ length bytes → bytes ≡ header n ++ drop 32 bytes
given_header n r bytes tail base entries rest g long =
    let all : List ℕ = frames (first_place n) (bodies n base entries) in
    let starts : take 32 bytes ≡ header n =
    sym (take-append-le 32 bytes tail long) ∙ ap (take 32) (g.begins.whole ∙ append_assoc (header n) all rest) ∙ take_at (header n) (all ++ rest) 32 (length-header n) in
    sym (take-append-drop 32 bytes) ∙ ap (λ (x : List ℕ). x ++ drop 32 bytes) starts

-- the only errors are that the bytes are cut off, and that an allocation failed
given_error : (n : ℕ) (r : Ranges) (bytes tail : List ℕ) (base : Base) (entries : List Entry) (rest : List ℕ) (e : HistoryError) → IsWidth n → Given n r bytes tail base entries rest → 32 ≤ length bytes → IsHistoryError n r bytes e
    → ((0 < length tail) × (e ≡ history_errors.Short)) ⊎ (e ≡ history_errors.Memory alloc_error)
given_error n r bytes tail base entries rest (history_errors.Header e) w g long why =
    absurd (header_there n bytes (drop 32 bytes) e (omega (arith, w.fits)) (given_header n r bytes tail base entries rest g long) why)
given_error n r bytes tail base entries rest history_errors.Short w g long why = inl ((part_torn n r bytes tail base entries rest Torn w.positive g why).0, refl)
given_error n r bytes tail base entries rest history_errors.BadHead w g long why = absurd (let t = (part_torn n r bytes tail base entries rest BadHead w.positive g why).1 in cc)
given_error n r bytes tail base entries rest history_errors.BadDigest w g long why = absurd (let t = (part_torn n r bytes tail base entries rest BadDigest w.positive g why).1 in cc)
given_error n r bytes tail base entries rest (history_errors.Base e) w g long why =
    absurd (why.of_bytes (base_memory n r.bits base why.first.body e w.positive why.error g.begins.log.fits g.bits (given_base n r bytes tail base entries rest why.first g)))
given_error n r bytes tail base entries rest (history_errors.Count count) w g long why =
    let one : why.base ≡ base = one_base n why.base base w.positive why.fits g.begins.log.fits (sym why.encoded ∙ given_base n r bytes tail base entries rest why.first g) in
    absurd (false≢true (sym why.not_admitted ∙ ap r.commits (why.count_is ∙ ap (λ (b : Base). past_count b.past) one) ∙ g.count))
given_error n r bytes tail base entries rest (history_errors.Entry e) w g long why =
    let next = next_body n r bytes tail base entries rest (history_errors.Entry e) why w.positive g in
    absurd (never_an_error n r.bits why.state next.0.entry why.body e next.0.follows next.0.within next.1 why.error)
given_error n r bytes tail base entries rest (history_errors.Bits len) w g long why =
    let next = next_body n r bytes tail base entries rest (history_errors.Bits len) why w.positive g in
    absurd (always_within n r.bits why.state next.0.entry why.body len next.0.follows next.0.within next.1 why.error)
given_error n r bytes tail base entries rest (history_errors.Memory e) w g long why = inr refl

-- ---- the history of a state is read

commits_within : (n : ℕ) (range : ℕ → Bool) (old : PrunedBits) (later : List (ℕ × PrunedBits)) → AllByRecursion (λ (kept : ℕ × PrunedBits). range (length kept.1.bits) ≡ true) later → AllByRecursion (IsCommitWithin n range) (commits_from n old later)
commits_within n range old [] h = tt
commits_within n range old (kept ∷ later) h = (ap range (sym (retained_is n (change_to n kept.0 old kept.1) kept.1 refl refl)) ∙ h.0, commits_within n range kept.1 later h.1)

commits_size : (n : ℕ) (old : PrunedBits) (later : List (ℕ × PrunedBits)) → length (commits_from n old later) ≡ length later
commits_size n old [] = refl
commits_size n old (kept ∷ later) = let e = commits_size n kept.1 later in omega (arith, e)

given_of : (n : ℕ) (r : Ranges) (bytes tail : List ℕ) (current : PrunedBits) (last : Option ℕ) (history : List (ℕ × PrunedBits)) (rest : List ℕ) → 0 < n → HasLog n (record { current = current; history = history; last = last })
    → IsWithin r (record { current = current; history = history; last = last }) → bytes ++ tail ≡ history_bytes n (record { current = current; history = history; last = last }) ++ rest
    → Given n r bytes tail (history_base (record { current = current; history = history; last = last })) (later_commits n history) rest
given_of n r bytes tail current None [] rest pos h w is = record { begins = record { whole = is; log = history_is_log n (record { current = current; history = []; last = None }) pos h }; bits = w.current; count = w.count; commits = tt; all = refl }
given_of n r bytes tail current (Some number) [] rest pos h w is =
    record { begins = record { whole = is; log = history_is_log n (record { current = current; history = []; last = Some number }) pos h }; bits = w.current; count = w.count; commits = tt; all = refl }
given_of n r bytes tail current last (kept ∷ later) rest pos h w is = record {
  begins = record { whole = is; log = history_is_log n (record { current = current; history = kept ∷ later; last = last }) pos h };
  bits = w.kept.0;
  count = w.count;
  commits = commits_within n r.bits kept.1 later w.kept.1;
  all = commits_size n kept.1 later;
}

-- a history has as many commits as its base counts
count_is : (n : ℕ) (current : PrunedBits) (last : Option ℕ) (history : List (ℕ × PrunedBits)) → length (later_commits n history) ≡ past_count (history_base (record { current = current; history = history; last = last })).past
count_is n current None [] = refl
count_is n current (Some number) [] = refl
count_is n current last (kept ∷ later) = commits_size n kept.1 later

-- two histories that the same bytes begin with are one, and the same bytes come after them
one_history : (n : ℕ) (bytes : List ℕ) (s t : Kept) (rest left : List ℕ) → 0 < n → BeginsWith n bytes (history_base s) (history_entries n s) rest → BeginsWith n bytes (history_base t) (history_entries n t) left
    → (history_base s ≡ history_base t) × (history_entries n s ≡ history_entries n t) × (rest ≡ left)
one_history n bytes s t rest left pos b c =
    let same = same_start n bytes (history_base s) (history_base t) (history_entries n s) (history_entries n t) rest left pos b c in
    let size : length (history_entries n t) ≡ length (history_entries n s) = count_is n t.current t.last t.history ∙ ap (λ (x : Base). past_count x.past) (sym same.0) ∙ sym (count_is n s.current s.last s.history) in
    let all = one_list n (base_kept (history_base t)) (next (first_place n) (encode_base n (history_base t))) (history_entries n t) (history_entries n s) left rest c.log.goes_on
    (subst (λ (y : Base). GoesOn n (base_kept y) (history_entries n s)) same.0 b.log.goes_on) size same.1 in
    (same.0, sym all.0, sym all.1)

-- so an encoding has one state
pub one_state : (n : ℕ) (s t : Kept) (rest left : List ℕ) → 0 < n → HasLog n s → HasLog n t → IsHistory s → IsHistory t → history_bytes n s ++ rest ≡ history_bytes n t ++ left → (s ≡ t) × (rest ≡ left)
one_state n s t rest left pos h k a b e =
    let same = one_history n (history_bytes n s ++ rest) s t rest left pos (record { whole = refl; log = history_is_log n s pos h }) (record { whole = e; log = history_is_log n t pos k }) in
    (sym (history_made n s pos a) ∙ (λ i. state_of n (same.0 i) (same.1 i)) ∙ history_made n t pos b, same.2)

-- what is read from the history of a state is this state
pub read_again : (n : ℕ) (r : Ranges) (bytes : List ℕ) (s t : Kept) (rest left : List ℕ) → 0 < n → HasLog n s → IsHistory s → bytes ≡ history_bytes n s ++ rest → BeginsWithHistory n r bytes t left → (t ≡ s) × (left ≡ rest)
read_again n r bytes s t rest left pos h ends is b =
    let same = one_history n bytes t s left rest pos (record { whole = b.whole; log = b.log }) (record { whole = is; log = history_is_log n s pos h }) in
    (sym (history_made n t pos b.ends) ∙ (λ i. state_of n (same.0 i) (same.1 i)) ∙ history_made n s pos ends, same.2)

-- the history of an admitted state is not read for no other reason than an allocation
pub only_memory : (n : ℕ) (r : Ranges) (bytes : List ℕ) (s : Kept) (rest : List ℕ) (e : HistoryError) → IsWidth n → HasLog n s → IsWithin r s → bytes ≡ history_bytes n s ++ rest → IsHistoryError n r bytes e → e ≡ history_errors.Memory alloc_error
only_memory n r bytes s rest e w h within is why =
    let all : List ℕ = frames (first_place n) (bodies n (history_base s) (history_entries n s)) in
    let long : 32 ≤ length bytes = omega (arith, ap length (is ∙ append_assoc (header n) all rest), length-append (header n) (all ++ rest), length-header n) in
    elim (given_error n r bytes [] (history_base s) (history_entries n s) rest e w (given_of n r bytes [] s.current s.last s.history rest w.positive h within (append-nil bytes ∙ is)) long why) [
      | inl cut ↦ absurd (omega (arith, cut.0))
      | inr full ↦ full
    ]

-- ---- a history that is cut off

long_if_begun : (n : ℕ) (bytes : List ℕ) (base : Base) (entries : List Entry) (rest : List ℕ) → BeginsWith n bytes base entries rest → 32 ≤ length bytes
long_if_begun n bytes base entries rest b =
    let all : List ℕ = frames (first_place n) (bodies n base entries) in
    long n bytes (all ++ rest) (b.whole ∙ append_assoc (header n) all rest)

long_if_lacks : (n : ℕ) (r : Ranges) (bytes : List ℕ) (why : Stop) → LacksPart n r bytes why → 32 ≤ length bytes
long_if_lacks n r bytes why l = elim l.good [
  | inl a ↦ long n bytes l.rest a.0
  | inr b ↦ long_if_begun n bytes b.3.reads.base b.3.reads.entries l.rest b.3.reads.begins
]

-- fewer bytes than a header has
pub short_is : (n : ℕ) (r : Ranges) (bytes : List ℕ) (e : HistoryError) → length bytes < 32 → IsHistoryError n r bytes e → e ≡ history_errors.Header Short
short_is n r bytes (history_errors.Header e) lt why = ap history_errors.Header (short_header n bytes e lt why)
short_is n r bytes history_errors.Short lt why = absurd (omega (arith, lt, long_if_lacks n r bytes Torn why))
short_is n r bytes history_errors.BadHead lt why = absurd (omega (arith, lt, long_if_lacks n r bytes BadHead why))
short_is n r bytes history_errors.BadDigest lt why = absurd (omega (arith, lt, long_if_lacks n r bytes BadDigest why))
short_is n r bytes (history_errors.Base e) lt why = absurd (omega (arith, lt, long n bytes why.first.rest why.first.header_is))
short_is n r bytes (history_errors.Count count) lt why = absurd (omega (arith, lt, long n bytes why.first.rest why.first.header_is))
short_is n r bytes (history_errors.Entry e) lt why = absurd (omega (arith, lt, long_if_begun n bytes why.reads.reads.base why.reads.reads.entries why.rest why.reads.reads.begins))
short_is n r bytes (history_errors.Bits len) lt why = absurd (omega (arith, lt, long_if_begun n bytes why.reads.reads.base why.reads.reads.entries why.rest why.reads.reads.begins))
short_is n r bytes (history_errors.Memory e) lt why = absurd (omega (arith, lt, long n bytes why.first.rest why.first.header_is))

-- a history that is cut off is not read
pub cut_not_read : (n : ℕ) (r : Ranges) (bytes : List ℕ) (s t : Kept) (m : ℕ) (left : List ℕ) → 0 < n → HasLog n s → m < length (history_bytes n s) → bytes ≡ take m (history_bytes n s) → BeginsWithHistory n r bytes t left → ⊥
cut_not_read n r bytes s t m left pos h fewer is b =
    let tail : List ℕ = drop m (history_bytes n s) in
    let whole : bytes ++ tail ≡ history_bytes n s = ap (λ (x : List ℕ). x ++ tail) is ∙ take-append-drop m (history_bytes n s) in
    let same = one_history n (bytes ++ tail) s t [] (left ++ tail) pos (record { whole = whole ∙ sym (append-nil (history_bytes n s)); log = history_is_log n s pos h })
    (record { whole = ap (λ (x : List ℕ). x ++ tail) b.whole ∙ append_assoc (history_bytes n t) left tail; log = b.log }) in
    omega (arith, fewer, ap length same.2, length-append left tail, length-drop m (history_bytes n s))

-- its error is that a frame is cut off, unless an allocation failed
pub cut_error : (n : ℕ) (r : Ranges) (bytes : List ℕ) (s : Kept) (m : ℕ) (e : HistoryError) → IsWidth n → HasLog n s → IsWithin r s → 32 ≤ m → m < length (history_bytes n s) → bytes ≡ take m (history_bytes n s) → IsHistoryError n r bytes e
    → (e ≡ history_errors.Short) ⊎ (e ≡ history_errors.Memory alloc_error)
cut_error n r bytes s m e w h within header fewer is why =
    let tail : List ℕ = drop m (history_bytes n s) in
    let whole : bytes ++ tail ≡ history_bytes n s ++ [] = ap (λ (x : List ℕ). x ++ tail) is ∙ take-append-drop m (history_bytes n s) ∙ sym (append-nil (history_bytes n s)) in
    let enough : 32 ≤ length bytes = omega (arith, header, fewer, ap length is, length-take m (history_bytes n s)) in
    elim (given_error n r bytes tail (history_base s) (history_entries n s) [] e w (given_of n r bytes tail s.current s.last s.history [] w.positive h within whole) enough why) [
      | inl cut ↦ inl cut.1
      | inr full ↦ inr full
    ]

-- what was read has a header
pub read_long : (n : ℕ) (r : Ranges) (bytes : List ℕ) (s : Kept) (left : List ℕ) → BeginsWithHistory n r bytes s left → 32 ≤ length bytes
read_long n r bytes s left b = long_if_begun n bytes (history_base s) (history_entries n s) left (record { whole = b.whole; log = b.log })
