-- The decode errors of an input that is read as a bitmap. A chunk has n bytes, and a range says which lengths it admits.
use Rattle.std.specs.Prelude.{◌≡◌, ℕ, ◌+◌, ◌-◌, ◌*◌, ◌^◌, ◌<◌, Bool, true, not, List, [], ◌∷◌, ◌++◌, length, take, drop, map, Option, Some, None, nat_lt, nat_le, ◌&&◌, codes, if◌then◌else◌}
use Rattle.std.specs.Int.{w64, from_be_bytes}
use Rattle.std.specs.List.{range_with_len, list_any}
use Rattle.bitmap_core.specs.declared.bitmap.codec.error.CodecError.{CodecError}
use Rattle.bitmap_core.specs.declared.bitmap.codec.error.CodecError.TheVariants as errors
use Rattle.bitmap_core.specs.declared.bitmap.codec.range.RangeCfg.{RangeCfg}
use Rattle.bitmap_bytes.specs.Chunk.{bytes_bit}
use Rattle.bitmap_core.specs.PrunedBits.{PrunedBits, bit_len}
use Rattle.bitmap_bytes.specs.Bits.{chunk_count}
use Rattle.bitmap_core.specs.Encoding.{encoding, pruned_encoding}

-- what can be wrong with an input
pub data DecodeError : Type 0 where
  EndOfBuffer : DecodeError
  InvalidLength : ℕ → DecodeError
  Invalid : List ℕ → List ℕ → DecodeError

-- the decode error that an error of a read names; out of memory is none
abbrev pub decode_error : CodecError → Option DecodeError
decode_error errors.EndOfBuffer = Some EndOfBuffer
decode_error (errors.InvalidLength len) = Some (InvalidLength len)
decode_error (errors.Invalid what why) = Some (Invalid what.now why.now)
decode_error errors.OutOfMemory = None

-- whether the range admits a length: one between its ends, both included
abbrev pub admits : RangeCfg → ℕ → Bool
admits r len = nat_le r.low len && nat_le len r.high

-- the number in the first eight bytes, most significant first
abbrev pub number : List ℕ → ℕ
number text = from_be_bytes w64 (take 8 text)

-- the number of bytes of the chunks, by the length that the input begins with
abbrev pub chunk_bytes : ℕ → List ℕ → ℕ
chunk_bytes n text = n * chunk_count n (number text)

-- the indices of the bits past the length in these chunks
abbrev pub trailing : ℕ → List ℕ → List ℕ
trailing n text = range_with_len (number text) (8 * chunk_bytes n text - number text)

-- whether the number does not fit 64 bits, the width of `u64` and of `usize`
abbrev pub is_past_64 : ℕ → Bool
is_past_64 k = not (nat_lt k (2 ^ 64))

-- whether there are fewer than eight bytes
abbrev pub is_short : List ℕ → Bool
is_short text = nat_lt (length text) 8

-- whether the length is out of range
abbrev pub is_out_of_range : (ℕ → Bool) → List ℕ → Bool
is_out_of_range range text = not (range (number text))

-- whether the number of chunks does not fit 64 bits
abbrev pub has_too_many_chunks : ℕ → List ℕ → Bool
has_too_many_chunks n text = is_past_64 (chunk_count n (number text))

-- whether bytes of the chunks are missing
abbrev pub lacks_chunks : ℕ → List ℕ → Bool
lacks_chunks n text = nat_lt (length text) (8 + chunk_bytes n text)

-- whether a bit past the length is set
abbrev pub has_trailing_bit : ℕ → List ℕ → Bool
has_trailing_bit n text = list_any (bytes_bit (drop 8 text)) (trailing n text)

-- whether the number of pruned bits does not fit 64 bits
abbrev pub has_too_many_pruned_bits : ℕ → List ℕ → Bool
has_too_many_pruned_bits n text = is_past_64 (8 * n * number text)

-- whether the number of pruned chunks does not fit 64 bits
abbrev pub has_too_many_pruned_chunks : List ℕ → Bool
has_too_many_pruned_chunks text = is_past_64 (number text)

-- whether the number of pruned and retained bits together does not fit 64 bits
abbrev pub has_too_many_bits : ℕ → List ℕ → Bool
has_too_many_bits n text = is_past_64 (8 * n * number text + number (drop 8 text))

-- the decode error of the first test that holds, if one does
abbrev pub first_error : List (Bool × DecodeError) → Option DecodeError
first_error [] = None
first_error (test ∷ tests) = if test.0 then Some test.1 else first_error tests

-- the tests of an input that is read as a list of bits, in order, each with its decode error
abbrev pub bits_tests : ℕ → (ℕ → Bool) → List ℕ → List (Bool × DecodeError)
bits_tests n range text =
    (is_short text, EndOfBuffer)
    ∷ (is_out_of_range range text, InvalidLength (number text))
    ∷ (has_too_many_chunks n text, EndOfBuffer)
    ∷ (lacks_chunks n text, EndOfBuffer)
    ∷ (
      has_trailing_bit n text,
      Invalid (codes "BitMap") (codes "Invalid trailing bits in encoded data"),
    )
    ∷ []

-- the tests of an input that is read as a bitmap with a pruned prefix, in order, each with its decode error
abbrev pub pruned_tests : ℕ → (ℕ → Bool) → List ℕ → List (Bool × DecodeError)
pruned_tests n range text =
    (is_short text, EndOfBuffer)
    ∷ (
      has_too_many_pruned_bits n text,
      Invalid (codes "Prunable") (codes "pruned_chunks would overflow when computing pruned_bits"),
    )
    ∷ (
      has_too_many_pruned_chunks text,
      Invalid (codes "Prunable") (codes "pruned_chunks doesn't fit in usize"),
    )
    ∷ bits_tests n range (drop 8 text)
    ++ (
      has_too_many_bits n text,
      Invalid (codes "Prunable")
          (codes "total bitmap length (pruned + unpruned) would overflow u64"),
    )
    ∷ []

-- the first decode error of an input that is read as a list of bits, if there is one
unfoldable pub bits_error : ℕ → (ℕ → Bool) → List ℕ → Option DecodeError
bits_error n range text = first_error (bits_tests n range text)

-- the first decode error of an input that is read as a bitmap with a pruned prefix, if there is one
unfoldable pub pruned_error : ℕ → (ℕ → Bool) → List ℕ → Option DecodeError
pruned_error n range text = first_error (pruned_tests n range text)

-- the bits that an input without a decode error encodes: as many as its number says, from the ninth byte on
unfoldable pub bits_in : List ℕ → List Bool
bits_in text = map (bytes_bit (drop 8 text)) (range_with_len 0 (number text))

-- the bitmap with a pruned prefix that an input without a decode error encodes: its pruned count, and then its bits
unfoldable pub pruned_in : List ℕ → PrunedBits
pruned_in text = record { pruned = number text; bits = bits_in (drop 8 text) }

-- some prefix of the input encodes a list of bits, and the range admits its length
pub record EncodesBits (n : ℕ) (range : ℕ → Bool) (text : List ℕ) : Type 0 where
  pub bits : List Bool
  pub rest : List ℕ
  pub encoded : text ≡ encoding n bits ++ rest
  pub len_fits : length bits < 2 ^ 64
  pub chunks_fit : chunk_count n (length bits) < 2 ^ 64
  pub admitted : range (length bits) ≡ true

-- some prefix of the input encodes a bitmap with a pruned prefix, and the range admits the number of its retained bits
pub record EncodesPruned (n : ℕ) (range : ℕ → Bool) (text : List ℕ) : Type 0 where
  pub bitmap : PrunedBits
  pub rest : List ℕ
  pub encoded : text ≡ pruned_encoding n bitmap ++ rest
  pub len_fits : bit_len n bitmap < 2 ^ 64
  pub pruned_fits : bitmap.pruned < 2 ^ 64
  pub chunks_fit : chunk_count n (length bitmap.bits) < 2 ^ 64
  pub admitted : range (length bitmap.bits) ≡ true
