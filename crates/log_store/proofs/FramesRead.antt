-- Bytes that are read frame by frame, up to a closed gate.
use Rattle.std.proofs.Common.{◌≡◌, ◌⊎◌, inl, inr, ℕ, ◌*◌, ◌^◌, ◌-◌, ◌<◌, ◌≤◌, Bool, true, false, ltb, List, [], ◌∷◌, ◌++◌, length, take, drop, Err, refl, sym, ap, subst, ◌∙◌, arith, append_assoc, length-append}
use Rattle.std.proofs.lemmas.Bool.{cases_lt, lt-ltb}
use Rattle.std.proofs.lemmas.List.{append-nil, append_cancel_left, length-drop, length-take, take_at}
use Rattle.std.specs.List.{AllByRecursion}
use Rattle.log_frames.specs.Frames.{IsBody, frame, frame_at, frames, head_fails, next, number_at, place_after}
use Rattle.log_frames.specs.Header.{first_place, header}
use Rattle.log_frames.specs.declared.frame.Place.{Place}
use Rattle.log_frames.specs.declared.frame.Stop.{Stop}
use Rattle.log_frames.specs.declared.frame.Stop.TheVariants.{Torn, BadHead}
use Rattle.log_frames.proofs.Frames.{at-counts, body-short, frame-fails, frame-reads, frames-append, once, place_after-append}
use Rattle.log_frames.proofs.Headers.{length-header}
use Rattle.log_store.specs.Gate.{IsBeforeGate, IsShut, IsUnfinished, ReadsFrames, closed}

-- ---- no whole frame

-- too few bytes
pub few_unfinished : (place : Place) (rest : List ℕ) → length rest < 16 → IsUnfinished place rest
unfolding frame_at
few_unfinished place rest few = let short : ltb (length rest) 16 ≡ true = lt-ltb (length rest) 16 few in record { why = Torn; stop = rw short refl; cause = inl refl }

-- whether a test is true
test : (b : Bool) → (b ≡ true) ⊎ (b ≡ false)
test true = inl refl
test false = inr refl

-- behind a closed gate, since the length that begins with it is more than there is
pub closed_unfinished : (place : Place) (after : List ℕ) → length after < 2 ^ 63 → IsUnfinished place (closed ∷ after)
closed_unfinished place after few =
    let bytes : List ℕ = closed ∷ after in
    let size : ℕ = number_at 0 bytes in
    let check : ℕ = number_at 8 bytes in
    elim (cases_lt (length bytes) 16) [
      | inl short ↦ few_unfinished place bytes short
      | inr enough ↦
          let large : 165 * 2 ^ 56 ≤ size = omega arith in
          elim (test (head_fails place size check)) [
            | inl fails ↦ record { why = BadHead; stop = frame-fails place bytes size check enough refl refl refl fails; cause = inr (after, refl) }
            | inr passes ↦
                let behind : List ℕ = take (length bytes - 16) (drop 16 bytes) in
                record {
                  why = Torn;
                  stop = sym (frame-reads place bytes size check enough refl refl refl passes) ∙ body-short place size behind (omega (arith, large, length-take (length bytes - 16) (drop 16 bytes), length-drop 16 bytes));
                  cause = inl refl;
                }
          ]
    ]

-- ---- reading

-- a header is read
pub reads_header : (n : ℕ) (bytes rest : List ℕ) (place : Place) → bytes ≡ header n ++ rest → place ≡ first_place n → ReadsFrames n bytes place rest
reads_header n bytes rest place is first = record { bodies = []; each = tt; whole = is ∙ ap (λ (x : List ℕ). x ++ rest) (sym (append-nil (header n))); place_is = first }

each_more : (bodies : List (List ℕ)) (body : List ℕ) → AllByRecursion IsBody bodies → IsBody body → AllByRecursion IsBody (bodies ++ body ∷ [])
each_more [] body each is = (is, tt)
each_more (b ∷ bodies) body each is = (each.0, each_more bodies body each.1 is)

-- a frame more is read
pub reads_more : (n : ℕ) (bytes rest body left : List ℕ) (place after : Place) → ReadsFrames n bytes place rest → rest ≡ frame place body ++ left → IsBody body → after ≡ next place body → ReadsFrames n bytes after left
reads_more n bytes rest body left place after h parts is_body after_is =
    let first = first_place n in
    let before : List ℕ = frames first h.bodies in
    let one : List ℕ = frame (place_after first h.bodies) body in
    let rest_is : rest ≡ one ++ left = parts ∙ ap (λ (p : Place). frame p body ++ left) h.place_is in
    let more : frames first (h.bodies ++ body ∷ []) ≡ before ++ one = frames-append first h.bodies (body ∷ []) ∙ ap (λ (x : List ℕ). before ++ x) (append-nil one) in
    record {
      bodies = h.bodies ++ body ∷ [];
      each = each_more h.bodies body h.each is_body;
      whole = h.whole
          ∙ ap (λ (x : List ℕ). (header n ++ before) ++ x) rest_is
          ∙ sym (append_assoc (header n ++ before) one left)
          ∙ ap (λ (x : List ℕ). x ++ left) (append_assoc (header n) before one ∙ ap (λ (x : List ℕ). header n ++ x) (sym more));
      place_is = after_is ∙ ap (λ (p : Place). next p body) h.place_is ∙ sym (place_after-append first h.bodies (body ∷ []));
    }

-- the position after frames is the number of their bytes and of those of the header
pub reads_count : (n : ℕ) (bytes rest : List ℕ) (place : Place) → (h : ReadsFrames n bytes place rest) → length (header n ++ frames (first_place n) h.bodies) ≡ place.at
reads_count n bytes rest place h =
    omega (arith, length-append (header n) (frames (first_place n) h.bodies), length-header n, at-counts (first_place n) h.bodies, ap (λ (p : Place). p.at) h.place_is)

-- the reading stops at a closed gate
pub stops_shut : (n : ℕ) (bytes rest good : List ℕ) (place : Place) (why : Stop) → ReadsFrames n bytes place rest → frame_at place rest ≡ Err why → IsShut rest → good ≡ take place.at bytes → IsBeforeGate n bytes good
stops_shut n bytes rest good place why h stop shut is = record {
  place = place;
  rest = rest;
  reads = h;
  good_is = is ∙ ap (take place.at) h.whole ∙ take_at (header n ++ frames (first_place n) h.bodies) rest place.at (reads_count n bytes rest place h);
  unfinished = record { why = why; stop = stop; cause = inr shut };
  shut = shut;
}

-- bytes are read in one way up to where no whole frame begins
pub one_stop : (n : ℕ) (bytes rest left : List ℕ) (place after : Place) (why other : Stop) → (h : ReadsFrames n bytes place rest) → (k : ReadsFrames n bytes after left) → frame_at place rest ≡ Err why → frame_at after left ≡ Err other
    → (h.bodies ≡ k.bodies) × (rest ≡ left) × (why ≡ other)
one_stop n bytes rest left place after why other h k stop stops =
    let first = first_place n in
    let same : frames first h.bodies ++ rest ≡ frames first k.bodies ++ left =
    append_cancel_left (header n) (frames first h.bodies ++ rest) (frames first k.bodies ++ left)
    (sym (append_assoc (header n) (frames first h.bodies) rest) ∙ sym h.whole ∙ k.whole ∙ append_assoc (header n) (frames first k.bodies) left) in
    once first h.bodies k.bodies rest left why other h.each k.each (ap (λ (p : Place). frame_at p rest) (sym h.place_is) ∙ stop) (ap (λ (p : Place). frame_at p left) (sym k.place_is) ∙ stops) same

-- where the reading stops is shut if there is a closed gate
pub only_shut : (n : ℕ) (bytes rest good : List ℕ) (place : Place) (why : Stop) → ReadsFrames n bytes place rest → frame_at place rest ≡ Err why → IsBeforeGate n bytes good → IsShut rest
only_shut n bytes rest good place why h stop k =
    let same = one_stop n bytes rest k.rest place k.place why k.unfinished.why h k.reads stop k.unfinished.stop in
    subst IsShut (sym same.1) k.shut
