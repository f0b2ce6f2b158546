-- What is left of frames whose bytes were cut off.
use Rattle.std.specs.Prelude.{ℕ, List, length, take, drop}
use Rattle.log_frames.specs.declared.frame.Place.{Place}
use Rattle.log_frames.specs.declared.frame.Stop.TheVariants.{Torn}
use Rattle.log_frames.specs.Frames.{frames, Splits, whole_in}

-- the frames with these bodies that end within the first m bytes
abbrev pub bodies_in : ℕ → List (List ℕ) → List (List ℕ)
bodies_in m bodies = take (whole_in m bodies) bodies

-- the first m bytes of these frames are the frames that end within them, and a rest that is torn
abbrev pub CutsAtAFrame : Place → List (List ℕ) → ℕ → Type 0
CutsAtAFrame place bodies m =
    let prefix : List ℕ = take m (frames place bodies) in
    Splits place prefix (bodies_in m bodies)
    (drop (length (frames place (bodies_in m bodies))) prefix) Torn
