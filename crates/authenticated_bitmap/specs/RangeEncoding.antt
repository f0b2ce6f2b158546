-- The encoding of a proof of a range of chunks.
use Rattle.std.specs.Prelude.{◌≡◌, ℕ, ◌+◌, ◌*◌, ◌^◌, ◌<◌, ◌≤◌, ◌==◌, nat_lt, not, List, ◌++◌, length, drop, slice_index_or, All, Result, Ok, Err, if◌then◌else◌}
use Rattle.std.specs.List.{flat_map}
use Rattle.std.specs.Int.{w64, to_be_bytes}
use Rattle.std.specs.Simd.{first_chunks}
use Rattle.authenticated_bitmap.specs.Root.{Shape, Fits, header}
use Rattle.authenticated_bitmap.specs.Encoding.{number_at}
use Rattle.authenticated_bitmap.specs.declared.encoding.DecodeError.{DecodeError}
use Rattle.authenticated_bitmap.specs.declared.encoding.DecodeError.TheVariants.{Short, Width, TooManyDigests, Length}

-- a proof of a range: the shape of the bitmap, the absolute index of the first chunk, the bytes of each chunk, and the siblings of the range
pub record ChunkRangeProof : Type 0 where
  pub shape : Shape
  pub first : ℕ
  pub chunks : List (List ℕ)
  pub siblings : List (List ℕ)

-- the encoding: six numbers in eight bytes each, the chunks, and the siblings
unfoldable pub range_encoding : ChunkRangeProof → List ℕ
range_encoding p =
    header p.shape ++ to_be_bytes w64 p.first ++ to_be_bytes w64 (length p.chunks)
    ++ to_be_bytes w64 (length p.siblings)
    ++ (flat_map (λ chunk. chunk) p.chunks ++ flat_map (λ digest. digest) p.siblings)

-- what bytes are read as at a width: a proof, or the first error
unfoldable pub range_proof_in : ℕ → List ℕ → Result ChunkRangeProof DecodeError
range_proof_in n bytes =
    if nat_lt (length bytes) 48 then Err Short
    else if not (number_at 0 bytes == n) then Err (Width (number_at 0 bytes))
    else if nat_lt 128 (number_at 40 bytes) then Err (TooManyDigests (number_at 40 bytes))
    else if not (length bytes == 48 + number_at 32 bytes * n + 32 * number_at 40 bytes)
    then Err Length
    else Ok (record {
      shape = record { width = n; len = number_at 8 bytes; pruned = number_at 16 bytes };
      first = number_at 24 bytes;
      chunks = first_chunks n (number_at 32 bytes) (drop 48 bytes);
      siblings = first_chunks 32 (number_at 40 bytes)
          (drop (number_at 32 bytes * n) (drop 48 bytes));
    })

-- a proof of chunks of n bytes that has an encoding: at most 128 siblings, of 32 bytes each
pub record IsRangeProof (n : ℕ) (p : ChunkRangeProof) : Type 0 where
  pub fits : Fits p.shape
  pub width : p.shape.width ≡ n
  pub first : p.first < 2 ^ 64
  pub count : length p.chunks < 2 ^ 64
  pub chunks : All (λ chunk. length chunk ≡ n) p.chunks
  pub few : length p.siblings ≤ 128
  pub digests : All (λ digest. length digest ≡ 32) p.siblings

-- the encoding of a proof of a range is read as that proof
abbrev pub IsRangeReadAgain : Type 0
IsRangeReadAgain = (n : ℕ) (p : ChunkRangeProof) → IsRangeProof n p
    → range_proof_in n (range_encoding p) ≡ Ok p

-- bytes that are read as a proof of a range are its encoding
abbrev pub IsRangeWrittenSo : Type 0
IsRangeWrittenSo = (n : ℕ) (bytes : List ℕ) (p : ChunkRangeProof)
    → ((i : ℕ) → slice_index_or bytes i 0 < 256) → range_proof_in n bytes ≡ Ok p
    → bytes ≡ range_encoding p
