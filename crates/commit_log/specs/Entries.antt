-- The entries of a log, and their encodings. A chunk has n bytes. A number takes eight bytes, most significant first.
use Rattle.std.specs.Prelude.{◌≡◌, ℕ, zero, suc, ◌+◌, ◌*◌, ◌/◌, ◌^◌, ◌<◌, List, [], ◌∷◌, ◌++◌, length, take, drop, Result, Ok, Err, nat_lt, ◌==◌, if◌then◌else◌}
use Rattle.std.specs.Int.{w64, to_be_bytes}
use Rattle.std.specs.List.{flat_map, AllByRecursion}
use Rattle.bitmap_core.specs.Decoding.{number as number_in}
use Rattle.commit_log.specs.declared.entry.DecodeError.{DecodeError}
use Rattle.commit_log.specs.declared.entry.DecodeError.TheVariants.{Short, Kind, Long}
use Rattle.commit_log.specs.declared.entry.Change.{Change as BorrowedChange}
use Rattle.commit_log.specs.declared.entry.Entry.{Entry as BorrowedEntry}
use Rattle.commit_log.specs.declared.entry.Entry.TheVariants as borrowed

-- a change: its number, the length and the pruned count after it, and the new bytes of chunks, by index
pub record Change : Type 0 where
  pub number : ℕ
  pub len : ℕ
  pub pruned : ℕ
  pub chunks : List (ℕ × List ℕ)

-- what a log records: a commit, a rewind to a number, the commits before a number dropped, and all commits dropped
pub data Entry : Type 0 where
  Commit : (change : Change) → Entry
  Rewind : (number : ℕ) → Entry
  DropBefore : (number : ℕ) → Entry
  Clear : Entry

-- ---- encoding

-- the encoding of a chunk: its index, and its bytes
unfoldable pub encode_chunk : ℕ × List ℕ → List ℕ
encode_chunk e = to_be_bytes w64 e.0 ++ e.1

-- the encoding of a change: its number, its length, its pruned count, and its chunks in order
unfoldable pub encode_change : Change → List ℕ
encode_change c =
    to_be_bytes w64 c.number
    ++ (to_be_bytes w64 c.len ++ (to_be_bytes w64 c.pruned ++ flat_map encode_chunk c.chunks))

-- the encoding of an entry: a byte that says which kind it is, and its fields
unfoldable pub encode_entry : Entry → List ℕ
encode_entry (Commit c) = 1 ∷ encode_change c
encode_entry (Rewind number) = 2 ∷ to_be_bytes w64 number
encode_entry (DropBefore number) = 3 ∷ to_be_bytes w64 number
encode_entry Clear = 5 ∷ []

-- an index that fits 64 bits, and as many bytes as a chunk has
pub record FitsChunk (n : ℕ) (e : ℕ × List ℕ) : Type 0 where
  pub index : e.0 < 2 ^ 64
  pub bytes : length e.1 ≡ n

-- a change whose encoding is read again
pub record FitsChange (n : ℕ) (c : Change) : Type 0 where
  pub number : c.number < 2 ^ 64
  pub len : c.len < 2 ^ 64
  pub pruned : c.pruned < 2 ^ 64
  pub chunks : AllByRecursion (FitsChunk n) c.chunks

-- an entry whose encoding is read again
abbrev pub FitsEntry : ℕ → Entry → Type 0
FitsEntry n (Commit c) = FitsChange n c
FitsEntry n (Rewind number) = number < 2 ^ 64
FitsEntry n (DropBefore number) = number < 2 ^ 64
FitsEntry n Clear = Unit {0}

-- ---- decoding

infixl 10 ◌>>=◌
-- what was read is read on, unless there is an error
abbrev pub ◌>>=◌ : {A B : Type 0} → Result A DecodeError → (A → Result B DecodeError)
    → Result B DecodeError
(Ok x) >>= f = f x
(Err e) >>= f = Err e

-- what a function returned, as view shows it, is what decoding gives
abbrev pub Gives : {X Y E : Type 0} → (X → Y) → Result X E → Result Y E → Type 0
Gives view (Ok x) decoded = decoded ≡ Ok (view x)
Gives view (Err e) decoded = decoded ≡ Err e

-- a number, and the bytes after it
abbrev pub decode_number : List ℕ → Result (ℕ × List ℕ) DecodeError
decode_number bytes = if nat_lt (length bytes) 8 then Err Short
    else Ok (number_in bytes, drop 8 bytes)

-- the first k chunks of some bytes
abbrev pub chunks_in : ℕ → ℕ → List ℕ → List (ℕ × List ℕ)
chunks_in n zero bytes = []
chunks_in n (suc k) bytes =
    (number_in bytes, take n (drop 8 bytes)) ∷ chunks_in n k (drop (8 + n) bytes)

-- the number of whole chunks, each with its index, in some bytes
abbrev pub chunks_of : ℕ → List ℕ → ℕ
chunks_of n bytes = length bytes / (8 + n)

-- the whole chunks of some bytes
abbrev pub all_chunks : ℕ → List ℕ → List (ℕ × List ℕ)
all_chunks n bytes = chunks_in n (chunks_of n bytes) bytes

-- all chunks of some bytes, unless the last one is cut off
unfoldable pub decode_chunks : ℕ → List ℕ → Result (List (ℕ × List ℕ)) DecodeError
decode_chunks n bytes = if (8 + n) * chunks_of n bytes == length bytes then Ok (all_chunks n bytes)
    else Err Short

-- the change that some bytes encode, or the first error
unfoldable pub decode_change : ℕ → List ℕ → Result Change DecodeError
decode_change n bytes =
    decode_number bytes >>= λ number.
    decode_number number.1 >>= λ len.
    decode_number len.1 >>= λ pruned.
    decode_chunks n pruned.1 >>= λ chunks.
    Ok (record { number = number.0; len = len.0; pruned = pruned.0; chunks = chunks })

-- the number that some bytes encode, or the first error
unfoldable pub decode_last_number : List ℕ → Result ℕ DecodeError
decode_last_number bytes = decode_number bytes >>= λ x. if length x.1 == 0 then Ok x.0 else Err Long

-- the entry without fields, unless bytes are left
abbrev pub decode_clear : List ℕ → Result Entry DecodeError
decode_clear [] = Ok Clear
decode_clear (byte ∷ bytes) = Err Long

-- the entry that some bytes encode, or the first error
unfoldable pub decode_entry : ℕ → List ℕ → Result Entry DecodeError
decode_entry n [] = Err Short
decode_entry n (zero ∷ rest) = Err Kind
decode_entry n (suc zero ∷ rest) = decode_change n rest >>= λ c. Ok (Commit c)
decode_entry n (suc (suc zero) ∷ rest) = decode_last_number rest >>= λ number. Ok (Rewind number)
decode_entry n (suc (suc (suc zero)) ∷ rest) =
    decode_last_number rest >>= λ number. Ok (DropBefore number)
decode_entry n (suc (suc (suc (suc zero))) ∷ rest) = Err Kind
decode_entry n (suc (suc (suc (suc (suc zero)))) ∷ rest) = decode_clear rest
decode_entry n (suc (suc (suc (suc (suc (suc kind))))) ∷ rest) = Err Kind

-- ---- what is read, as contracts describe it

-- a change that was read
abbrev pub view_change : ℕ → BorrowedChange → Change
view_change n c = record {
  number = c.number;
  len = c.len;
  pruned = c.pruned;
  chunks = all_chunks n c.chunks.now;
}

-- an entry that was read
abbrev pub view_entry : ℕ → BorrowedEntry → Entry
view_entry n (borrowed.Commit c) = Commit (view_change n c)
view_entry n (borrowed.Rewind number) = Rewind number
view_entry n (borrowed.DropBefore number) = DropBefore number
view_entry n borrowed.Clear = Clear
