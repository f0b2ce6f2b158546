-- The edits of a batch. Positions are absolute and count bits. A chunk has n bytes.
use Rattle.std.specs.Prelude.{◌≡◌, ℕ, ◌+◌, ◌-◌, ◌*◌, ◌/◌, ◌^◌, ◌<◌, ◌≤◌, min, Bool, true, List, [], ◌∷◌, ◌++◌, length, map, nat_eq, replicate}
use Rattle.std.specs.List.{range_with_len}
use Rattle.std.specs.Set.{is_member}
use Rattle.bitmap_bytes.specs.Chunk.{chunk_bit}
use Rattle.bitmap_core.specs.PrunedBits.{PrunedBits, bit_len, IsRetained, pushed, popped, set_at, pruned_to}

-- one edit: append a bit, drop the last bit, replace the bit at a position, or prune the chunks before the chunk of a position
pub data Edit : Type 0 where
  Push : (value : Bool) → Edit
  Pop : Edit
  Set : (position : ℕ) (value : Bool) → Edit
  Prune : (position : ℕ) → Edit

-- the edits that append some bits, in order
abbrev pub pushes : List Bool → List Edit
pushes values = map (λ value. Push value) values

-- the edits that drop a number of bits, the last one first
abbrev pub pops : ℕ → List Edit
pops count = replicate count Pop

-- the numbers from lo up to, but not including, hi
abbrev pub from_to : ℕ → ℕ → List ℕ
from_to lo hi = range_with_len lo (hi - lo)

-- chunk i has one of the positions from lo up to, but not including, hi
abbrev pub IsReached : ℕ → ℕ → ℕ → ℕ → Type 0
IsReached n lo hi i = (k : ℕ) × (lo ≤ k) × (k < hi) × (k / (8 * n) ≡ i)

-- the edits that set each position from lo up to, but not including, hi, in ascending order
abbrev pub sets : ℕ → ℕ → Bool → List Edit
sets lo hi value = map (λ position. Set position value) (from_to lo hi)

-- the edits that set each position from lo up to, but not including, hi to the bit that some bytes have there, in ascending order
abbrev pub sets_of : ℕ → List ℕ → ℕ → ℕ → List Edit
sets_of n bytes lo hi = map (λ position. Set position (chunk_bit n bytes position)) (from_to lo hi)

-- the end of chunk i: the first position past it, or the length if that is less
abbrev pub chunk_end : ℕ → PrunedBits → ℕ → ℕ
chunk_end n b i = min (8 * n * i + 8 * n) (bit_len n b)

-- the bitmap after an edit
abbrev pub after : ℕ → PrunedBits → Edit → PrunedBits
after n b (Push value) = pushed b value
after n b Pop = popped b
after n b (Set position value) = set_at n b position value
after n b (Prune position) = pruned_to n b (position / (8 * n))

-- the bitmap after a list of edits
abbrev pub after_all : ℕ → PrunedBits → List Edit → PrunedBits
after_all n b [] = b
after_all n b (edit ∷ edits) = after_all n (after n b edit) edits

-- the condition of an edit: a pushed length fits 64 bits; there is a bit to pop; a position to set is retained; a position to prune to is at most the length
abbrev pub IsAccepted : ℕ → PrunedBits → Edit → Type 0
IsAccepted n b (Push value) = bit_len n b + 1 < 2 ^ 64
IsAccepted n b Pop = 0 < length b.bits
IsAccepted n b (Set position value) = IsRetained n b position
IsAccepted n b (Prune position) = position ≤ bit_len n b

-- each edit of a list meets its condition after the edits before it
abbrev pub AllAccepted : ℕ → PrunedBits → List Edit → Type 0
AllAccepted n b [] = Unit {0}
AllAccepted n b (edit ∷ edits) = IsAccepted n b edit × AllAccepted n (after n b edit) edits

-- the chunks that an edit touches: the chunk of the appended, dropped or replaced bit, or each chunk that a prune drops
abbrev pub touches : ℕ → PrunedBits → Edit → List ℕ
touches n b (Push value) = bit_len n b / (8 * n) ∷ []
touches n b Pop = (bit_len n b - 1) / (8 * n) ∷ []
touches n b (Set position value) = position / (8 * n) ∷ []
touches n b (Prune position) = from_to b.pruned (position / (8 * n))

-- the chunks that a list of edits touches
abbrev pub touched : ℕ → PrunedBits → List Edit → List ℕ
touched n b [] = []
touched n b (edit ∷ edits) = touches n b edit ++ touched n (after n b edit) edits

-- each number of xs is in ys
abbrev pub IsWithin : List ℕ → List ℕ → Type 0
IsWithin xs ys = (q : ℕ) → is_member nat_eq xs q ≡ true → is_member nat_eq ys q ≡ true
