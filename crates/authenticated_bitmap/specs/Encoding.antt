-- The encoding of a proof of a chunk.
use Rattle.std.specs.Prelude.{◌≡◌, ℕ, ◌+◌, ◌*◌, ◌^◌, ◌<◌, ◌≤◌, ◌==◌, nat_lt, not, List, ◌++◌, length, take, drop, slice_index_or, All, Result, Ok, Err, if◌then◌else◌}
use Rattle.std.specs.List.{flat_map}
use Rattle.std.specs.Int.{w64, to_be_bytes, from_be_bytes}
use Rattle.std.specs.Simd.{first_chunks}
use Rattle.authenticated_bitmap.specs.Root.{Shape, Fits, header}
use Rattle.authenticated_bitmap.specs.declared.encoding.DecodeError.{DecodeError}
use Rattle.authenticated_bitmap.specs.declared.encoding.DecodeError.TheVariants.{Short, Width, TooManyDigests, Length}

-- a proof of a chunk: the shape of the bitmap, the absolute index of the chunk, its bytes, and its audit path
pub record ChunkProof : Type 0 where
  pub shape : Shape
  pub index : ℕ
  pub chunk : List ℕ
  pub path : List (List ℕ)

-- the encoding: five numbers in eight bytes each, the chunk, and the digests of the path
unfoldable pub encoding : ChunkProof → List ℕ
encoding p = header p.shape ++ to_be_bytes w64 p.index ++ to_be_bytes w64 (length p.path)
    ++ (p.chunk ++ flat_map (λ digest. digest) p.path)

-- the number in the eight bytes from start on
abbrev pub number_at : ℕ → List ℕ → ℕ
number_at start bytes = from_be_bytes w64 (take 8 (drop start bytes))

-- what bytes are read as at a width: a proof, or the first error
unfoldable pub proof_in : ℕ → List ℕ → Result ChunkProof DecodeError
proof_in n bytes =
    if nat_lt (length bytes) 40 then Err Short
    else if not (number_at 0 bytes == n) then Err (Width (number_at 0 bytes))
    else if nat_lt 64 (number_at 32 bytes) then Err (TooManyDigests (number_at 32 bytes))
    else if not (length bytes == 40 + n + 32 * number_at 32 bytes) then Err Length
    else Ok (record {
      shape = record { width = n; len = number_at 8 bytes; pruned = number_at 16 bytes };
      index = number_at 24 bytes;
      chunk = take n (drop 40 bytes);
      path = first_chunks 32 (number_at 32 bytes) (drop n (drop 40 bytes));
    })

-- a proof of chunks of n bytes that has an encoding: at most 64 digests, of 32 bytes each
pub record IsProof (n : ℕ) (p : ChunkProof) : Type 0 where
  pub fits : Fits p.shape
  pub width : p.shape.width ≡ n
  pub index : p.index < 2 ^ 64
  pub chunk : length p.chunk ≡ n
  pub few : length p.path ≤ 64
  pub digests : All (λ digest. length digest ≡ 32) p.path

-- the encoding of a proof is read as that proof
abbrev pub IsReadAgain : Type 0
IsReadAgain = (n : ℕ) (p : ChunkProof) → IsProof n p → proof_in n (encoding p) ≡ Ok p

-- bytes that are read as a proof are its encoding
abbrev pub IsWrittenSo : Type 0
IsWrittenSo = (n : ℕ) (bytes : List ℕ) (p : ChunkProof) → ((i : ℕ) → slice_index_or bytes i 0 < 256)
    → proof_in n bytes ≡ Ok p → bytes ≡ encoding p
