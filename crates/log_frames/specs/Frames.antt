-- Frames: bodies one after another, each behind its length and a check, and before a digest that is chained over all frames before it.
use Rattle.std.specs.Prelude.{◌≡◌, ℕ, Bool, suc, ◌+◌, ◌-◌, ◌^◌, ◌<◌, List, [], ◌∷◌, ◌++◌, length, take, drop, Result, Ok, Err, nat_lt, nat_le, ◌==◌, ◌||◌, not, if◌then◌else◌}
use Rattle.std.specs.Int.{w64, to_be_bytes, from_be_bytes}
use Rattle.std.specs.List.{AllByRecursion, list_all}
use Rattle.log_frames.specs.Digest.{digest}
use Rattle.log_frames.specs.declared.frame.Place.{Place}
use Rattle.log_frames.specs.declared.frame.Frame.{Frame}
use Rattle.log_frames.specs.declared.frame.Stop.{Stop}
use Rattle.log_frames.specs.declared.frame.Stop.TheVariants.{Torn, BadHead, BadDigest}

-- the eight bytes of a number, most significant first
abbrev pub be64 : ℕ → List ℕ
be64 number = to_be_bytes w64 number

-- the number in the eight bytes from a position on
abbrev pub number_at : ℕ → List ℕ → ℕ
number_at start bytes = from_be_bytes w64 (take 8 (drop start bytes))

-- what a frame can have as its body: at least one byte, and a length that fits 64 bits
pub record IsBody (body : List ℕ) : Type 0 where
  pub some : 0 < length body
  pub fits : length body < 2 ^ 64

-- the check of a head: the digest of the frame's position and of the length of its body
abbrev pub head_check : Place → ℕ → ℕ
head_check place size = digest (be64 place.at ++ be64 size)

-- the digest of a frame: that of the digest before the frame, followed by its body
abbrev pub chained : Place → List ℕ → ℕ
chained place body = digest (be64 place.digest ++ body)

-- a frame: the length of the body, the check of these two, the body, and the digest
unfoldable pub frame : Place → List ℕ → List ℕ
frame place body = be64 (length body)
    ++ (be64 (head_check place (length body)) ++ (body ++ be64 (chained place body)))

-- the place after a frame
abbrev pub next : Place → List ℕ → Place
next place body = record { at = place.at + 24 + length body; digest = chained place body }

-- frames one after another, the first of them at the place
abbrev pub frames : Place → List (List ℕ) → List ℕ
frames place [] = []
frames place (body ∷ bodies) = frame place body ++ frames (next place body) bodies

-- the place after frames
abbrev pub place_after : Place → List (List ℕ) → Place
place_after place [] = place
place_after place (body ∷ bodies) = place_after (next place body) bodies

-- what follows a head is read as: the body and the bytes after the frame, or why there is no frame
abbrev pub body_at : Place → ℕ → List ℕ → Result (List ℕ × List ℕ) Stop
body_at place size rest =
    if nat_lt (length rest) (size + 8) then Err Torn
    else if not (number_at size rest == chained place (take size rest)) then Err BadDigest
    else Ok (take size rest, drop (size + 8) rest)

-- whether a head that has this length and this check was not written for the place
abbrev pub head_fails : Place → ℕ → ℕ → Bool
head_fails place size check = size == 0 || not (check == head_check place size)

-- whether all of the bytes are zero
abbrev pub are_zero : List ℕ → Bool
are_zero bytes = list_all (λ byte. byte == 0) bytes

-- the body of the frame that bytes begin with at the place, and the bytes after the frame, or why they begin with no whole frame
unfoldable pub frame_at : Place → List ℕ → Result (List ℕ × List ℕ) Stop
frame_at place bytes =
    if nat_lt (length bytes) 16 then Err Torn
    else if are_zero bytes then Err Torn
    else if head_fails place (number_at 0 bytes) (number_at 8 bytes) then Err BadHead
    else body_at place (number_at 0 bytes) (drop 16 bytes)

-- what a function returned, seen by view, is what reading gives
abbrev pub Gives : {X Y E : Type 0} → (X → Y) → Result X E → Result Y E → Type 0
Gives view (Ok x) read = read ≡ Ok (view x)
Gives view (Err e) read = read ≡ Err e

-- the body of a frame that was read, and the bytes after it
abbrev pub view : Frame → List ℕ × List ℕ
view found = (found.body.now, found.rest.now)

-- the bytes are these frames, and then a rest that begins with no whole frame, for this reason
pub record Splits (place : Place) (bytes : List ℕ) (bodies : List (List ℕ)) (rest : List ℕ)
    (why : Stop) : Type 0 where
  pub whole : bytes ≡ frames place bodies ++ rest
  pub each : AllByRecursion IsBody bodies
  pub stop : frame_at (place_after place bodies) rest ≡ Err why

-- how many of the frames with these bodies end within the first m bytes
abbrev pub whole_in : ℕ → List (List ℕ) → ℕ
whole_in m [] = 0
whole_in m (body ∷ bodies) = if nat_le (24 + length body) m
    then suc (whole_in (m - (24 + length body)) bodies) else 0
