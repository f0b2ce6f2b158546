-- The gate of a frame: its first byte, which a store writes last.
use Rattle.std.specs.Prelude.{◌≡◌, ◌⊎◌, ℕ, ◌<◌, ◌≤◌, List, ◌∷◌, ◌++◌, length, Err}
use Rattle.std.specs.List.{AllByRecursion}
use Rattle.log_frames.specs.Frames.{IsBody, frame_at, frames, place_after}
use Rattle.log_frames.specs.Header.{first_place, header}
use Rattle.log_frames.specs.declared.frame.Place.{Place}
use Rattle.log_frames.specs.declared.frame.Stop.{Stop}
use Rattle.log_frames.specs.declared.frame.Stop.TheVariants.{Torn}

-- the byte at a frame's first position until the frame is kept; as the first byte of a frame's length, it is more bytes than a device has
abbrev pub closed : ℕ
closed = 165

-- bytes that begin with a closed gate
abbrev pub IsShut : List ℕ → Type 0
IsShut bytes = (after : List ℕ) × (bytes ≡ closed ∷ after)

-- no whole frame begins at a place, since the bytes there are torn, or since they begin with a closed gate
pub record IsUnfinished (place : Place) (rest : List ℕ) : Type 0 where
  pub why : Stop
  pub stop : frame_at place rest ≡ Err why
  pub cause : (why ≡ Torn) ⊎ IsShut rest

-- bytes are a header of a width and whole frames, and then a rest, which begins at this place
pub record ReadsFrames (width : ℕ) (bytes : List ℕ) (place : Place) (rest : List ℕ) : Type 0 where
  pub bodies : List (List ℕ)
  pub each : AllByRecursion IsBody bodies
  pub whole : bytes ≡ (header width ++ frames (first_place width) bodies) ++ rest
  pub place_is : place ≡ place_after (first_place width) bodies

-- these bytes are a header and whole frames, and in others they are followed by a closed gate, at which no whole frame begins
pub record IsBeforeGate (width : ℕ) (bytes good : List ℕ) : Type 0 where
  pub place : Place
  pub rest : List ℕ
  pub reads : ReadsFrames width bytes place rest
  pub good_is : good ≡ header width ++ frames (first_place width) reads.bodies
  pub unfinished : IsUnfinished place rest
  pub shut : IsShut rest

-- what a crash leaves while a byte and further bytes are put in the place of the closed gate after some bytes: the closed gate and any further bytes, or all of them
abbrev pub IsGated : List ℕ → ℕ → List ℕ → List ℕ → Type 0
IsGated good first rest c =
    ((after : List ℕ) × (c ≡ good ++ closed ∷ after) × (length after ≤ length rest))
    ⊎ (c ≡ good ++ first ∷ rest)

-- what a crash leaves while a closed gate is put in the place of a rest after some bytes: the rest, or one byte at most, or the closed gate and any further bytes
abbrev pub IsShutting : List ℕ → List ℕ → List ℕ → Type 0
IsShutting good rest c = (left : List ℕ) × (c ≡ good ++ left)
    × ((left ≡ rest) ⊎ ((length left ≤ 1)
    ⊎ ((after : List ℕ) × (left ≡ closed ∷ after) × (length after < length rest))))
