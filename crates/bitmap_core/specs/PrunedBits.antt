-- A bitmap whose prefix may be pruned, in whole chunks of n bytes. Positions are absolute.
use Rattle.std.specs.Prelude.{ℕ, ◌+◌, ◌-◌, ◌*◌, ◌/◌, ◌^◌, ◌<◌, ◌≤◌, Bool, false, List, ◌∷◌, [], ◌++◌, length, map, take, drop, replicate, ◌==◌, nat_lt, if◌then◌else◌, slice_index_or, slice_set}
use Rattle.std.specs.List.{range_with_len, flat_map}
use Rattle.bitmap_bytes.specs.Chunk.{chunk_from, chunk_bit, chunk_bits, IsWidth}
use Rattle.bitmap_core.specs.Ranges.{is_between}

-- a bitmap: its number of pruned chunks, and the bits after them
pub record PrunedBits : Type 0 where
  pub pruned : ℕ
  pub bits : List Bool

-- a dense bitmap, as one in which nothing is pruned
abbrev pub plain_bits : List Bool → PrunedBits
plain_bits v = record { pruned = 0; bits = v }

-- the number of pruned bits, which is the first position that is not pruned
abbrev pub pruned_bits : ℕ → PrunedBits → ℕ
pruned_bits n b = 8 * n * b.pruned

-- the length, pruned bits included
abbrev pub bit_len : ℕ → PrunedBits → ℕ
bit_len n b = pruned_bits n b + length b.bits

-- the width is allowed, and the length fits 64 bits
pub record IsCounted (n : ℕ) (b : PrunedBits) : Type 0 where
  pub width : IsWidth n
  pub len : bit_len n b < 2 ^ 64

-- the bit at a retained position; past the length it is false
abbrev pub bit_at : ℕ → PrunedBits → ℕ → Bool
bit_at n b k = slice_index_or b.bits (k - pruned_bits n b) false

-- position k is retained
abbrev pub IsRetained : ℕ → PrunedBits → ℕ → Type 0
IsRetained n b k = (pruned_bits n b ≤ k) × (k < bit_len n b)

-- chunk i has a retained bit
abbrev pub IsRetainedChunk : ℕ → PrunedBits → ℕ → Type 0
IsRetainedChunk n b i = (b.pruned ≤ i) × (8 * n * i < bit_len n b)

-- the bitmap of length len with the given number of pruned chunks, whose retained bits are given by position
abbrev pub from_bits : ℕ → ℕ → ℕ → (ℕ → Bool) → PrunedBits
from_bits n pruned len bit =
    record {
      pruned = pruned;
      bits = map bit (range_with_len (8 * n * pruned) (len - 8 * n * pruned));
    }

-- the bytes of chunk i; a bit past the length is zero
abbrev pub chunk : ℕ → PrunedBits → ℕ → List ℕ
chunk n b i = chunk_from n (bit_at n b) i

-- the bitmap with one bit appended
abbrev pub pushed : PrunedBits → Bool → PrunedBits
pushed b x = record { pruned = b.pruned; bits = b.bits ++ x ∷ [] }

-- the bitmap without its last bit
abbrev pub popped : PrunedBits → PrunedBits
popped b = record { pruned = b.pruned; bits = take (length b.bits - 1) b.bits }

-- the last bit
abbrev pub last_bit : PrunedBits → Bool
last_bit b = slice_index_or b.bits (length b.bits - 1) false

-- the bitmap with x as the bit at the retained position k
abbrev pub set_at : ℕ → PrunedBits → ℕ → Bool → PrunedBits
set_at n b k x = record { pruned = b.pruned; bits = slice_set b.bits (k - pruned_bits n b) x }

-- the bitmap with x as the bit at each position from lo up to hi, hi excluded
abbrev pub set_range : ℕ → PrunedBits → ℕ → ℕ → Bool → PrunedBits
set_range n b lo hi x = from_bits n b.pruned (bit_len n b)
    (λ k. if is_between lo hi k then x else bit_at n b k)

-- the bitmap with a list of bits appended
abbrev pub appended : PrunedBits → List Bool → PrunedBits
appended b more = record { pruned = b.pruned; bits = b.bits ++ more }

-- the bitmap with zeros appended up to length len
abbrev pub extended : ℕ → PrunedBits → ℕ → PrunedBits
extended n b len = appended b (replicate (len - bit_len n b) false)

-- the bitmap shortened to length len
abbrev pub truncated : ℕ → PrunedBits → ℕ → PrunedBits
truncated n b len = record { pruned = b.pruned; bits = take (len - pruned_bits n b) b.bits }

-- the bitmap without the chunks before chunk i; if these are pruned already, the bitmap itself
abbrev pub pruned_to : ℕ → PrunedBits → ℕ → PrunedBits
pruned_to n b i = if nat_lt b.pruned i
    then record { pruned = i; bits = drop (8 * n * (i - b.pruned)) b.bits } else b

-- the bitmap with a list of chunks inserted, in order, before the retained bits
abbrev pub unpruned : ℕ → PrunedBits → List (List ℕ) → PrunedBits
unpruned n b chunks = record {
  pruned = b.pruned - length chunks;
  bits = flat_map (chunk_bits n) chunks ++ b.bits;
}

-- the bitmap with the bits of chunk i replaced by those of some bytes
abbrev pub with_chunk : ℕ → PrunedBits → ℕ → List ℕ → PrunedBits
with_chunk n b i bytes =
    from_bits n b.pruned (bit_len n b)
    (λ k. if k / (8 * n) == i then chunk_bit n bytes k else bit_at n b k)
