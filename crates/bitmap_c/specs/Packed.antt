-- The bits of a range as bytes: bit k of the range is bit k mod 8 of byte k / 8.
use Rattle.std.specs.Prelude.{ℕ, ◌+◌, ◌-◌, ◌*◌, ◌/◌, Bool, false, List, map, nat_lt, if◌then◌else◌}
use Rattle.std.specs.List.{range_with_len}
use Rattle.bitmap_bytes.specs.Chunk.{byte_of}

-- the number of bytes that the bits from `from` up to `to` fill; none if the range ends before it begins
abbrev pub byte_count : ℕ → ℕ → ℕ
byte_count from to = (to - from + 7) / 8

-- the bit at a position below the end, and zero from the end on
abbrev pub bit_below : (ℕ → Bool) → ℕ → ℕ → Bool
bit_below bit end k = if nat_lt k end then bit k else false

-- the bytes of the bits from `from` up to `to`; the bits of the last byte past `to` are zero
abbrev pub packed : (ℕ → Bool) → ℕ → ℕ → List ℕ
packed bit from to = map (λ j. byte_of (λ t. bit_below bit to (from + (8 * j + t))))
    (range_with_len 0 (byte_count from to))
