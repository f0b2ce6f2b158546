-- The width of a chunk, and its bits.
use Rattle.std.specs.Prelude.{◌≡◌, ℕ, cond, not, if◌then◌else◌, ◌+◌, ◌-◌, ◌*◌, ◌/◌, ◌%◌, ◌^◌, ◌<◌, ◌≤◌, ◌⊎◌, Bool, true, false, List, length, map, ◌==◌, slice_index, slice_index_or}
use Rattle.std.specs.List.{count_by, range_with_len, sum_by}
use Rattle.std.specs.Int.{bit_at}

-- a chunk may have n bytes: n is at least 1, and the number of bits of a chunk fits 64 bits
pub record IsWidth (n : ℕ) : Type 0 where
  pub positive : 0 < n
  pub fits : 8 * n < 2 ^ 64

-- bit i of a chunk of n bytes: bit i mod 8 of byte (i / 8) mod n
abbrev pub chunk_bit : ℕ → List ℕ → ℕ → Bool
chunk_bit n chunk i = bit_at (slice_index_or chunk (i / 8 % n) 0) (i % 8) == 1

-- the bits of a chunk of n bytes, in order
abbrev pub chunk_bits : ℕ → List ℕ → List Bool
chunk_bits n chunk = map (chunk_bit n chunk) (range_with_len 0 (8 * n))

-- the new chunk has value as bit i, and every other bit as the old chunk has it
pub record IsBitWritten (n : ℕ) (old new : List ℕ) (i : ℕ) (value : Bool) : Type 0 where
  pub here : chunk_bit n new i ≡ value
  pub others : (j : ℕ) → (j % (8 * n) ≡ i % (8 * n) → ⊥) → chunk_bit n new j ≡ chunk_bit n old j

-- bit i of a list of bytes: bit i mod 8 of byte i / 8, or zero past the last byte
abbrev pub bytes_bit : List ℕ → ℕ → Bool
bytes_bit bytes i = bit_at (slice_index_or bytes (i / 8) 0) (i % 8) == 1

-- the list is a chunk of n bytes: its length is n, and each item is below 256
pub record IsChunk (n : ℕ) (chunk : List ℕ) : Type 0 where
  pub len : length chunk ≡ n
  pub bytes : (k : ℕ) → slice_index chunk k < 256

-- a bit as a number: 1 for true, 0 for false
abbrev pub bit_value : Bool → ℕ
bit_value x = cond x 1 0

-- the byte that has the given eight bits, the lowest first
abbrev pub byte_of : (ℕ → Bool) → ℕ
byte_of bit = sum_by (λ t. bit_value (bit t) * 2 ^ t) (range_with_len 0 8)

-- the eight bits of a byte, the lowest first
abbrev pub byte_bits : ℕ → List Bool
byte_bits byte = map (λ t. bit_at byte t == 1) (range_with_len 0 8)

-- the bytes of chunk i of a bitmap whose bits are given by position
abbrev pub chunk_from : ℕ → (ℕ → Bool) → ℕ → List ℕ
chunk_from n bit i = map (λ j. byte_of (λ t. bit (8 * n * i + 8 * j + t))) (range_with_len 0 n)

-- the bytes of chunk i of the list v of bits; a bit past the end of the list is zero
abbrev pub chunk_of : ℕ → List Bool → ℕ → List ℕ
chunk_of n v i = chunk_from n (λ k. slice_index_or v k false) i

-- the new chunk has byte as the byte of bit i, and every other byte as the old chunk has it
pub record IsByteWritten (n : ℕ) (old new : List ℕ) (i byte : ℕ) : Type 0 where
  pub here : (j : ℕ) → j / 8 % n ≡ i / 8 % n → chunk_bit n new j ≡ (bit_at byte (j % 8) == 1)
  pub others : (j : ℕ) → (j / 8 % n ≡ i / 8 % n → ⊥) → chunk_bit n new j ≡ chunk_bit n old j

-- the new chunk has the eight bits of byte from bit i on, and every other bit as the old chunk has it
pub record IsByteJoined (n : ℕ) (old new : List ℕ) (i byte : ℕ) : Type 0 where
  pub here : (j : ℕ) → i % (8 * n) ≤ j % (8 * n) → j % (8 * n) < i % (8 * n) + 8
      → chunk_bit n new j ≡ (bit_at byte (j % (8 * n) - i % (8 * n)) == 1)
  pub others : (j : ℕ) → (j % (8 * n) < i % (8 * n)) ⊎ (i % (8 * n) + 8 ≤ j % (8 * n))
      → chunk_bit n new j ≡ chunk_bit n old j

-- whether a bit is wanted: set bits are wanted if `wanted` is true, and unset bits if it is false
abbrev pub is_wanted : Bool → Bool → Bool
is_wanted wanted bit = if wanted then bit else not bit

-- k is the greatest position below `to` that passes the test
pub record IsLastBelow (test : ℕ → Bool) (to k : ℕ) : Type 0 where
  pub below : k < to
  pub passes : test k ≡ true
  pub none_after : (i : ℕ) → k < i → i < to → test i ≡ false

-- p is a position from `from` up to `to`, `to` excluded, that passes the test, and k positions of the range below p pass it
pub record IsNth (test : ℕ → Bool) (from to k p : ℕ) : Type 0 where
  pub above : from ≤ p
  pub below : p < to
  pub passes : test p ≡ true
  pub rank : count_by test (range_with_len from (p - from)) ≡ k
