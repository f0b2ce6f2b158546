-- The size of a history, counted before it is written.
use Rattle.std.proofs.Common.{◌≡◌, ℕ, ◌+◌, ◌*◌, ◌^◌, ◌<◌, ◌≤◌, List, [], ◌∷◌, ◌++◌, length, map, refl, sym, ap, subst, ◌∙◌, arith, Option, Some, None}
use Rattle.bitmap_bytes.specs.Bits.{chunk_count}
use Rattle.bitmap_core.specs.PrunedBits.{PrunedBits, bit_len}
use Rattle.bitmap_core.specs.Encoding.{pruned_encoding}
use Rattle.bitmap_core.proofs.Codec.Encodings.{length-encoding}
use Rattle.bitmap_core.proofs.Pruned.Codec.{length-pruned}
use Rattle.std.specs.Int.{w64, to_be_bytes}
use Rattle.std.specs.List.{flat_map}
use Rattle.std.specs.Map.{keys_of}
use Rattle.std.proofs.lemmas.List.{append-nil, length-append, map-append}
use Rattle.std.proofs.lemmas.Option.{same_Some}
use Rattle.historical_bitmap.specs.Changes.{changed, changed_between, listed, retained_bytes, with_bytes}
use Rattle.historical_bitmap.specs.History.{kept_under}
use Rattle.historical_bitmap.proofs.Changes.Patched.{changed_is}
use Rattle.log_frames.specs.Frames.{frame, frames, next, place_after}
use Rattle.log_frames.specs.Header.{first_place, header}
use Rattle.log_frames.specs.declared.frame.Place.{Place}
use Rattle.log_frames.proofs.Frames.{frames-append, length-frame}
use Rattle.log_frames.proofs.Headers.{length-header}
use Rattle.commit_log.specs.Base.{Base, encode_base, past_count, past_number}
use Rattle.commit_log.specs.Entries.{Entry, encode_change, encode_chunk, encode_entry}
use Rattle.commit_log.specs.Entries.Entry.{Commit}
use Rattle.commit_log.specs.History.{IsSizeOf, base_of, commits_from, history_base, history_bytes, later_commits}
use Rattle.commit_log.specs.Kept.{Kept, change_to}
use Rattle.commit_log.proofs.Entries.{length-chunks}
use Rattle.commit_log.proofs.Fits.{listed_fits}
use Rattle.commit_log.proofs.Histories.{AreNeighbours, WritesOn, found_first, none_written, one_written}

-- ---- a chunk that is listed, or not

pub one_listed : (n : ℕ) (new : PrunedBits) (i : ℕ) (is : List ℕ) (bytes : List ℕ) → retained_bytes n new i ≡ Some bytes → listed n new (i ∷ is) ≡ (i, bytes) ∷ listed n new is
one_listed n new i is bytes e = rw e refl

pub none_listed : (n : ℕ) (new : PrunedBits) (i : ℕ) (is : List ℕ) → retained_bytes n new i ≡ None → listed n new (i ∷ is) ≡ listed n new is
none_listed n new i is e = rw e refl

with_le : (i : ℕ) (found : Option (List ℕ)) (others : List (ℕ × List ℕ)) → length (with_bytes i found others) ≤ 1 + length others
with_le i None others = omega arith
with_le i (Some bytes) others = omega arith

-- no more chunks are listed than are given
pub listed_le : (n : ℕ) (new : PrunedBits) (is : List ℕ) → length (listed n new is) ≤ length is
listed_le n new [] = omega arith
listed_le n new (i ∷ is) = omega (arith, with_le i (retained_bytes n new i) (listed n new is), listed_le n new is)

-- ---- sizes

pub size_same : (a b : ℕ) (r : Option ℕ) → IsSizeOf a r → a ≡ b → IsSizeOf b r
size_same a b r h e = subst (λ (k : ℕ). IsSizeOf k r) e h

pub commit_sized : (n : ℕ) (history : List (ℕ × PrunedBits)) (from to count : ℕ) (old new newer : PrunedBits) (changes : List ℕ) → 0 < n → bit_len n newer < 2 ^ 64 → Some newer ≡ kept_under history to
    → Some changes ≡ changed_between n history from to → kept_under history from ≡ Some old → kept_under history to ≡ Some new → count ≡ length (listed n newer changes)
    → (8 + n) * count + 49 ≡ 24 + length (encode_entry (Commit (change_to n to old new)))
unfolding encode_entry encode_change
commit_sized n history from to count old new newer changes pos fits there between older now is =
    let same : newer ≡ new = same_Some newer new (there ∙ now) in
    let all : changes ≡ changed n old new = changed_is n history from to old new changes between (sym older) (sym now) in
    let chunks : List (ℕ × List ℕ) = listed n new (changed n old new) in
    let here : count ≡ length chunks = is ∙ (λ i. length (listed n (same i) (all i))) in
    let size = length-chunks n chunks (listed_fits n new (changed n old new) pos (subst (λ (b : PrunedBits). bit_len n b < 2 ^ 64) same fits)) in
    let times : (8 + n) * count ≡ (8 + n) * length chunks = ap (λ (k : ℕ). (8 + n) * k) here in
    omega (
      arith,
      times,
      size,
      length-append (to_be_bytes w64 to) (to_be_bytes w64 (bit_len n new) ++ (to_be_bytes w64 new.pruned ++ flat_map encode_chunk chunks)),
      length-append (to_be_bytes w64 (bit_len n new)) (to_be_bytes w64 new.pruned ++ flat_map encode_chunk chunks),
      length-append (to_be_bytes w64 new.pruned) (flat_map encode_chunk chunks),
    )

base_length : (n : ℕ) (b : Base) → length (encode_base n b) ≡ 18 + length (pruned_encoding n b.bits)
unfolding encode_base
base_length n b =
    omega (
      arith,
      length-append (to_be_bytes w64 (past_number b.past)) (to_be_bytes w64 (past_count b.past) ++ pruned_encoding n b.bits),
      length-append (to_be_bytes w64 (past_count b.past)) (pruned_encoding n b.bits),
    )

-- no state is kept
pub current_sized : (n : ℕ) (current : PrunedBits) (last : Option ℕ) (history : List (ℕ × PrunedBits)) (size : ℕ) → keys_of history ≡ [] → size ≡ length (pruned_encoding n current) → size + 18 ≡ length (encode_base n (base_of current last history))
current_sized n current last [] size e is = omega (arith, is, base_length n (base_of current last []))
current_sized n current last (kept ∷ later) size e is = absurd cc

-- the first kept state
pub first_sized : (n : ℕ) (current : PrunedBits) (last : Option ℕ) (history : List (ℕ × PrunedBits)) (number retained size : ℕ) (rest : List ℕ) (first : PrunedBits) → keys_of history ≡ number ∷ rest → Some first ≡ kept_under history number
    → retained ≡ length first.bits → size ≡ 16 + n * chunk_count n retained → size + 18 ≡ length (encode_base n (base_of current last history))
first_sized n current last history number retained size rest first e is count whole =
    let found = found_first history number rest e in
    let same : first ≡ found.0 = same_Some first found.0 (is ∙ found.3) in
    let base : Base = base_of current last ((number, found.0) ∷ found.1) in
    let chunks : n * chunk_count n retained ≡ n * chunk_count n (length found.0.bits) = ap (λ (k : ℕ). n * chunk_count n k) (count ∙ ap (λ (b : PrunedBits). length b.bits) same) in
    omega (
      arith,
      whole,
      chunks,
      base_length n base,
      length-pruned n found.0,
      length-encoding n found.0.bits,
      ap (λ (xs : List (ℕ × PrunedBits)). length (encode_base n (base_of current last xs))) found.2,
    )

-- ---- the whole history

-- the bytes before the first commit
abbrev pub before_commits : ℕ → Kept → List ℕ
before_commits n s = header n ++ frame (first_place n) (encode_base n (history_base s))

-- the place of the first commit
abbrev pub commits_place : ℕ → Kept → Place
commits_place n s = next (first_place n) (encode_base n (history_base s))

-- the frames of the commits
abbrev commit_frames : ℕ → List (ℕ × PrunedBits) → Place → List ℕ
commit_frames n history start = frames start (map encode_entry (later_commits n history))

pub before_size : (n : ℕ) (s : Kept) (size : ℕ) → size + 18 ≡ length (encode_base n (history_base s)) → size + 74 ≡ length (before_commits n s)
before_size n s size e =
    omega (
      arith,
      e,
      length-append (header n) (frame (first_place n) (encode_base n (history_base s))),
      length-header n,
      length-frame (first_place n) (encode_base n (history_base s)),
    )

pub whole_size : (n : ℕ) (s : Kept) → length (history_bytes n s) ≡ length (before_commits n s) + length (commit_frames n s.history (commits_place n s))
whole_size n s =
    let base : List ℕ = encode_base n (history_base s) in
    let later : List ℕ = commit_frames n s.history (commits_place n s) in
    omega (
      arith,
      length-append (header n) (frame (first_place n) base ++ later),
      length-append (frame (first_place n) base) later,
      length-append (header n) (frame (first_place n) base),
    )

-- the commits up to the state under `from` are counted, after some bytes
pub record SizesOn (n : ℕ) (history : List (ℕ × PrunedBits)) (from : ℕ) (numbers : List ℕ) (start : Place) (first : List ℕ) (size : ℕ) : Type 0 where
  pub out : List ℕ
  pub place : Place
  pub writes : WritesOn n history from numbers start first out place
  pub size_is : size ≡ length out
  pub fits : size < 2 ^ 64

pub none_counted : (n : ℕ) (history : List (ℕ × PrunedBits)) (from : ℕ) (numbers : List ℕ) (start : Place) (first : List ℕ) (size : ℕ) → keys_of history ≡ from ∷ numbers → size ≡ length first → size < 2 ^ 64
    → SizesOn n history from numbers start first size
none_counted n history from numbers start first size e is small = record { out = first; place = start; writes = none_written n history from numbers start first e; size_is = is; fits = small }

pub one_counted : (n : ℕ) (history : List (ℕ × PrunedBits)) (from to : ℕ) (numbers : List ℕ) (start : Place) (first out : List ℕ) (place : Place) (size commit more : ℕ) (a : AreNeighbours n history from to numbers start first out place)
    → size ≡ length out → commit ≡ 24 + length (encode_entry (Commit (change_to n to a.old a.new))) → more ≡ size + commit → more < 2 ^ 64
    → SizesOn n history to numbers start first more
one_counted n history from to numbers start first out place size commit more a is e f small =
    let body : List ℕ = encode_entry (Commit (change_to n to a.old a.new)) in
    record {
      out = out ++ frame place body;
      place = next place body;
      writes = one_written n history from to numbers start first out (out ++ frame place body) body place (next place body) a refl refl refl;
      size_is = omega (arith, is, e, f, length-append out (frame place body), length-frame place body);
      fits = small;
    }

-- no part is larger than the whole
pub part_le : (n : ℕ) (history : List (ℕ × PrunedBits)) (from to : ℕ) (numbers : List ℕ) (start : Place) (first out : List ℕ) (place : Place) (a : AreNeighbours n history from to numbers start first out place)
    → length out + (24 + length (encode_entry (Commit (change_to n to a.old a.new)))) ≤ length first + length (commit_frames n history start)
part_le n history from to numbers start first out place a =
    let entry : Entry = Commit (change_to n to a.old a.new) in
    let body : List ℕ = encode_entry entry in
    let later : List (List ℕ) = map encode_entry (commits_from n a.new a.later) in
    let done : List (List ℕ) = map encode_entry a.done in
    let end : Place = place_after start done in
    let all : map encode_entry (later_commits n history) ≡ done ++ body ∷ later = ap (map encode_entry) a.entries ∙ map-append encode_entry a.done (entry ∷ commits_from n a.new a.later) in
    omega (
      arith,
      ap (λ (xs : List (List ℕ)). length (frames start xs)) all,
      ap length (frames-append start done (body ∷ later)),
      length-append (frames start done) (frame end body ++ frames (next end body) later),
      length-append (frame end body) (frames (next end body) later),
      length-frame end body,
      ap length a.bytes,
      length-append first (frames start done),
    )

no_keys : (xs : List (ℕ × PrunedBits)) → [] ≡ keys_of xs → xs ≡ []
no_keys [] e = refl
no_keys (x ∷ xs) e = absurd cc

-- all commits are counted
pub all_counted : (n : ℕ) (history : List (ℕ × PrunedBits)) (from : ℕ) (numbers : List ℕ) (start : Place) (first : List ℕ) (size : ℕ) → SizesOn n history from numbers start first size → numbers ≡ [] → size ≡ length first + length (commit_frames n history start)
all_counted n history from numbers start first size s e =
    let w = s.writes in
    let none : w.later ≡ [] = no_keys w.later (sym e ∙ w.numbers_are) in
    let done : w.done ≡ later_commits n history = sym (w.entries ∙ ap (λ (xs : List (ℕ × PrunedBits)). w.done ++ commits_from n w.old xs) none ∙ append-nil w.done) in
    omega (
      arith,
      s.size_is,
      ap length w.bytes,
      length-append first (frames start (map encode_entry w.done)),
      ap (λ (es : List Entry). length (frames start (map encode_entry es))) done,
    )

-- no commits are counted if no state is kept
pub nothing_counted : (n : ℕ) (history : List (ℕ × PrunedBits)) (start : Place) → keys_of history ≡ [] → length (commit_frames n history start) ≡ 0
nothing_counted n [] start e = refl
nothing_counted n (kept ∷ later) start e = absurd cc
