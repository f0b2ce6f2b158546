-- A reverse record undone step by step. A chunk has n bytes.
use Rattle.std.specs.Prelude.{◌≡◌, ℕ, ◌*◌, ◌/◌, ◌<◌, ◌≤◌, false, List, [], ◌∷◌, map, if◌then◌else◌, nat_eq, nat_lt, nat_le, ◌&&◌, Option, Some, None, MatchOption, option_to_list, unwrap_or, IsSome}
use Rattle.std.specs.List.{filter, flat_map}
use Rattle.std.specs.List.Sorted.{IsStrictlySortedBy}
use Rattle.std.specs.Ordering.{nat_cmp}
use Rattle.std.specs.Map.{keys_of, lookup}
use Rattle.bitmap_bytes.specs.Chunk.{chunk_bit}
use Rattle.bitmap_core.specs.PrunedBits.{PrunedBits, bit_len, IsRetained, truncated, extended, unpruned, with_chunk}
use Rattle.historical_bitmap.specs.Edits.{from_to}
use Rattle.historical_bitmap.specs.Record.{ChunkDiff, ReverseRecord, kept_bytes, kept}

-- the bitmap truncated, or extended with zeros, to a length
abbrev pub resized : ℕ → PrunedBits → ℕ → PrunedBits
resized n b len = if nat_lt (bit_len n b) len then extended n b len else truncated n b len

-- the bits of chunk i replaced by those of some bytes, if there are bytes
abbrev pub put_back_one : ℕ → PrunedBits → ℕ → Option (List ℕ) → PrunedBits
put_back_one n b i None = b
put_back_one n b i (Some bytes) = with_chunk n b i bytes

-- the chunks of some entries replaced by the bytes that the entries keep, one entry after the other
abbrev pub put_back : ℕ → PrunedBits → List (ℕ × ChunkDiff) → PrunedBits
put_back n b [] = b
put_back n b (entry ∷ entries) = put_back n (put_back_one n b entry.0 (kept_bytes entry.1)) entries

-- the old bytes of the chunks that a commit pruned, in order, if it left `pruned` chunks pruned
abbrev pub pruned_chunk_bytes : ReverseRecord → ℕ → List (List ℕ)
pruned_chunk_bytes r pruned = map (λ i. unwrap_or (kept r i) []) (from_to r.pruned pruned)

-- the bytes that entries keep of the chunks from one index up to, but not including, another, in order
abbrev pub kept_between : ℕ → ℕ → List (ℕ × ChunkDiff) → List (List ℕ)
kept_between from to entries =
    flat_map (λ entry. option_to_list (kept_bytes entry.1))
    (filter (λ entry. nat_le from entry.0 && nat_lt entry.0 to) entries)

-- a record undone in steps: pruned chunks prepended, the length restored, and the old bytes of the other chunks written back
abbrev pub undone_in_steps : ℕ → ReverseRecord → PrunedBits → PrunedBits
undone_in_steps n r newer =
    put_back n (resized n (unpruned n newer (pruned_chunk_bytes r newer.pruned)) r.len)
    (filter (λ entry. nat_le newer.pruned entry.0) r.entries)

-- old bytes of chunk i can be written back after the length is restored: the chunk starts before the length, and their bits past it are zero
pub record IsOldChunk (n : ℕ) (len : ℕ) (i : ℕ) (bytes : List ℕ) : Type 0 where
  pub high : 8 * n * i < len
  pub clear : (k : ℕ) → k / (8 * n) ≡ i → len ≤ k → chunk_bit n bytes k ≡ false

-- a record can be undone from `newer`: it keeps every old chunk pruned since, and its other bytes can be written back; every other old bit is in `newer`, which has new bits only in chunks with an entry
pub record CanUndo (n : ℕ) (r : ReverseRecord) (newer : PrunedBits) : Type 0 where
  pub rises : r.pruned ≤ newer.pruned
  pub fits : 8 * n * r.pruned ≤ r.len
  pub pruned : (i : ℕ) → r.pruned ≤ i → i < newer.pruned → 8 * n * i < r.len → IsSome (kept r i)
  pub others : (i : ℕ) → newer.pruned ≤ i → MatchOption (kept r i) (Unit {0}) (IsOldChunk n r.len i)
  pub unkept : (k : ℕ) → 8 * n * r.pruned ≤ k → k < r.len → kept r (k / (8 * n)) ≡ None
      → IsRetained n newer k
  pub unnamed : (k : ℕ) → IsRetained n newer k → lookup (nat_eq (k / (8 * n))) r.entries ≡ None
      → (8 * n * r.pruned ≤ k) × (k < r.len)
  pub sorted : IsStrictlySortedBy nat_cmp (keys_of r.entries)
