-- Entries of chunks with a cached word: bits of one chunk, stored apart from it. A chunk has n bytes.
use Rattle.std.specs.Prelude.{◌≡◌, ℕ, ◌+◌, ◌-◌, ◌*◌, ◌%◌, ◌^◌, ◌<◌, ◌≤◌, ◌&&◌, ◌==◌, ◌⊎◌, Bool, false, List, [], Option, Some, None, MatchOption, IsSome, if◌then◌else◌, nat_eq, nat_le, nat_lt, unwrap_or}
use Rattle.std.specs.Int.{bit_at}
use Rattle.std.specs.List.Sorted.{IsStrictlySortedBy}
use Rattle.std.specs.Map.{keys_of, lookup}
use Rattle.std.specs.Ordering.{nat_cmp}
use Rattle.bitmap_bytes.specs.Chunk.{chunk_bit, chunk_from, IsWidth}
use Rattle.chunk_map.specs.Entries.{with_chunk}
use Rattle.historical_bitmap.specs.declared.bitmap.historical.cached_word.CachedWord.{CachedWord}

-- bit k of a chunk of which the `count` bits from position `base` on are those of a word
abbrev pub bit_with_word : ℕ → List ℕ → ℕ → ℕ → ℕ → ℕ → Bool
bit_with_word n chunk base count word k = if nat_le base k && nat_lt k (base + count)
    then bit_at word (k - base) == 1 else chunk_bit n chunk k

-- the bytes of chunk i with those bits
abbrev pub chunk_with_word : ℕ → List ℕ → ℕ → ℕ → ℕ → ℕ → List ℕ
chunk_with_word n chunk base count word i = chunk_from n (bit_with_word n chunk base count word) i

-- whether an index is that of the chunk with the cached word
abbrev pub is_cached_at : Option ℕ → ℕ → Bool
is_cached_at None index = false
is_cached_at (Some cached) index = nat_eq cached index

-- the entries, with the bits of the cached word in its chunk if there is one
abbrev pub with_word : ℕ → List (ℕ × List ℕ) → Option ℕ → ℕ → ℕ → ℕ → List (ℕ × List ℕ)
with_word n entries None base count word = entries
with_word n entries (Some i) base count word =
    with_chunk entries i (chunk_with_word n
    (unwrap_or (lookup (nat_eq i) entries) []) base count word i)

-- the `count` bits from position `base` on are whole bytes of chunk i, which is among the entries, and fit a word; the position past them fits 64 bits or is the first that does not
pub record IsWordOf (n : ℕ) (entries : List (ℕ × List ℕ)) (base count : ℕ) (i : ℕ) : Type 0 where
  pub sorted : IsStrictlySortedBy nat_cmp (keys_of entries)
  pub found : IsSome (lookup (nat_eq i) entries)
  pub some : 0 < count
  pub short : count ≤ 64
  pub low : 8 * n * i ≤ base
  pub high : base + count ≤ 8 * n * i + 8 * n
  pub starts : (base - 8 * n * i) % 8 ≡ 0
  pub whole : count % 8 ≡ 0
  pub fits : base + count ≤ 2 ^ 64

-- the cached word, if there is one, is a word of a chunk of the entries; else it has no bits
pub record IsCachedWord (n : ℕ) (entries : List (ℕ × List ℕ)) (cached : Option ℕ)
    (base count : ℕ) : Type 0 where
  pub width : IsWidth n
  pub word : MatchOption cached (count ≡ 0) (IsWordOf n entries base count)

-- the entries, with the bits of the cached word as the code stores it
abbrev pub with_cached : ℕ → List (ℕ × List ℕ) → CachedWord → List (ℕ × List ℕ)
with_cached n entries cache = with_word n entries cache.chunk cache.base cache.count cache.word

-- the cached word, as the code stores it, is a word of a chunk of the entries if there is one; else it has no bits
abbrev pub IsCached : ℕ → List (ℕ × List ℕ) → CachedWord → Type 0
IsCached n entries cache = IsCachedWord n entries cache.chunk cache.base cache.count

-- the new chunk has the low `count` bits of a word from bit `base` on, and every other bit as the old chunk has it
pub record IsWordPut (n : ℕ) (old new : List ℕ) (base count word : ℕ) : Type 0 where
  pub here : (k : ℕ) → base % (8 * n) ≤ k % (8 * n) → k % (8 * n) < base % (8 * n) + count
      → chunk_bit n new k ≡ (bit_at word (k % (8 * n) - base % (8 * n)) == 1)
  pub others : (k : ℕ) → (k % (8 * n) < base % (8 * n)) ⊎ (base % (8 * n) + count ≤ k % (8 * n))
      → chunk_bit n new k ≡ chunk_bit n old k
