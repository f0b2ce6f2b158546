-- A bitmap as the trait `Readable` describes it. A chunk has n bytes.
use Rattle.std.specs.Prelude.{◌≡◌, ℕ, ◌+◌, ◌-◌, ◌*◌, ◌/◌, ◌%◌, ◌^◌, ◌<◌, ◌≤◌, min, max, Bool, true, false, not, List, ◌++◌, length, slice_index_or, ◌==◌, nat_lt, if◌then◌else◌, Option}
use Rattle.std.specs.Int.{bit_at as digit_at}
use Rattle.std.specs.Iterator.{YieldsFirst}
use Rattle.std.specs.List.{filter, range_with_len}
use Rattle.bitmap_bytes.specs.Bits.{chunks_bit}
use Rattle.bitmap_bytes.specs.Chunk.{chunk_bit, is_wanted, IsWidth}
use Rattle.bitmap_bytes.specs.Words.{starts_word, word_start, IsCut}
use Rattle.bitmap_core.specs.PrunedBits.{PrunedBits, bit_len, bit_at}

-- a bitmap: its number of pruned chunks, its length in bits (pruned bits included), and the bit at each position
pub record Meaning : Type 0 where
  pub pruned : ℕ
  pub len : ℕ
  pub bit : ℕ → Bool

-- a list of bits, as a bitmap in which nothing is pruned
abbrev pub plain_meaning : List Bool → Meaning
plain_meaning v = record { pruned = 0; len = length v; bit = λ k. slice_index_or v k false }

-- a bitmap with a pruned prefix, by its pruned count, its length and the bit at each position
abbrev pub pruned_meaning : ℕ → PrunedBits → Meaning
pruned_meaning n b = record { pruned = b.pruned; len = bit_len n b; bit = bit_at n b }

-- what holds of every bitmap: its width is allowed, its pruned bits are within its length, and its counts fit 64 bits
pub record IsLawful (n : ℕ) (m : Meaning) : Type 0 where
  pub width : IsWidth n
  pub pruned_within : 8 * n * m.pruned ≤ m.len
  pub len_fits : m.len < 2 ^ 64
  pub chunks_fit : m.len / (8 * n) < 2 ^ 64

-- chunk c has a retained bit
abbrev pub IsRetainedChunk : ℕ → Meaning → ℕ → Type 0
IsRetainedChunk n m c = (m.pruned ≤ c) × (8 * n * c < m.len)

-- position k is retained
abbrev pub IsRetained : ℕ → Meaning → ℕ → Type 0
IsRetained n m k = (8 * n * m.pruned ≤ k) × (k < m.len)

-- the bytes have the bits of chunk c below the length, and any bits past it
abbrev pub ShowsChunk : ℕ → Meaning → ℕ → List ℕ → Type 0
ShowsChunk n m c bytes = (k : ℕ) → k < 8 * n → 8 * n * c + k < m.len
    → chunk_bit n bytes k ≡ m.bit (8 * n * c + k)

-- the positions from lo up to hi, hi excluded, whose bit is true, in ascending order
abbrev pub ones_between : (ℕ → Bool) → ℕ → ℕ → List ℕ
ones_between bit lo hi = filter bit (range_with_len lo (hi - lo))

-- the retained positions from a up to b, b excluded, whose bit is true, in ascending order
abbrev pub ones : ℕ → Meaning → ℕ → ℕ → List ℕ
ones n m a b = ones_between m.bit (max a (8 * n * m.pruned)) (min b m.len)

-- the positions from lo up to hi, hi excluded, whose bit is false, in ascending order
abbrev pub zeros_between : (ℕ → Bool) → ℕ → ℕ → List ℕ
zeros_between bit lo hi = filter (λ k. not (bit k)) (range_with_len lo (hi - lo))

-- the retained positions from a up to b, b excluded, whose bit is false, in ascending order
abbrev pub zeros : ℕ → Meaning → ℕ → ℕ → List ℕ
zeros n m a b = zeros_between m.bit (max a (8 * n * m.pruned)) (min b m.len)

-- the bitmap itself if `wanted` is true, and the bitmap with each bit inverted if `wanted` is false
abbrev pub seen_as : Bool → Meaning → Meaning
seen_as wanted m = record { pruned = m.pruned; len = m.len; bit = λ k. is_wanted wanted (m.bit k) }

-- the number of words that have a position from lo up to hi, hi excluded
abbrev pub words_between : ℕ → ℕ → ℕ → ℕ
words_between n lo hi = if nat_lt lo hi
    then length (ones_between (starts_word n) (word_start n lo) hi) else 0

-- the number of words that have a retained position from a up to b, b excluded
abbrev pub words : ℕ → Meaning → ℕ → ℕ → ℕ
words n m a b = words_between n (max a (8 * n * m.pruned)) (min b m.len)

-- the value of an iterator over set positions: the positions left, the number of words loaded, the number of words of its range, and how many of these it has not reached
pub record Scan : Type 0 where
  pub left : List ℕ
  pub loads : ℕ
  pub words : ℕ
  pub ahead : ℕ

-- a call of `next` on an iterator over set positions: it returns the first position left, if any. The words of the range stay the same, the loads never decrease, and they are at most those words: one per word that was reached.
pub record IsScanStep (old : Scan) (result : Option ℕ) (new : Scan) : Type 0 where
  pub yields : YieldsFirst (λ (s : Scan). s.left) old result new
  pub grows : old.loads ≤ new.loads
  pub range : new.words ≡ old.words
  pub within : new.loads ≤ old.words
  pub reached : new.loads + new.ahead ≤ old.words

-- the bit at position k in a word that begins at base
abbrev pub word_bit : ℕ → ℕ → ℕ → Bool
word_bit base word k = digit_at word (k - base) == 1

-- the set positions in a word at base, followed by those of the bitmap from `next` on
abbrev pub left_from : Meaning → ℕ → ℕ → ℕ → ℕ → List ℕ
left_from m base word next end =
    ones_between (word_bit base word) base (base + 64) ++ ones_between m.bit next end

-- the position after some words of 64 bits that begin at `next`
abbrev pub run_end : ℕ → List (List ℕ) → ℕ
run_end next run = next + 64 * length run

-- what holds of the cursor of an iterator: from `next` on it has words in place. Where they end, a word of a retained chunk begins, and it has a copy of that chunk unless the chunk begins there too. It loads at most the words of its range before `next`, and a load covers at most 64 positions.
pub record IsScan (n : ℕ) (m : Meaning) (next end : ℕ) (run : List (List ℕ)) (chunk : List ℕ)
    (loads first : ℕ) : Type 0 where
  pub lawful : IsLawful n m
  pub within : end ≤ m.len
  pub retained : next < end → 8 * n * m.pruned ≤ next
  pub inside : run_end next run ≤ end
  pub bits : (i : ℕ) → i < 64 * length run → chunks_bit 8 run i ≡ m.bit (next + i)
  pub aligned : run_end next run < end → starts_word n (run_end next run) ≡ true
  pub shown : run_end next run < end → (run_end next run % (8 * n) ≡ 0 → ⊥)
      → ShowsChunk n m (run_end next run / (8 * n)) chunk
  pub counted : loads + words_between n next end ≤ words_between n first end
  pub covered : next ≤ first + 64 * loads

-- what holds of an iterator: its cursor is right, and its word has no set bit at or past the end
pub record IsIterating (n : ℕ) (m : Meaning) (base word next end : ℕ) (run : List (List ℕ))
    (chunk : List ℕ) (loads first : ℕ) : Type 0 where
  pub scan : IsScan n m next end run chunk loads first
  pub cut : IsCut base word end

-- a position of a list of bits, and the byte that contains it, unless a byte begins there
pub record IsPlace (bits : List Bool) (position : ℕ) (byte : List ℕ) : Type 0 where
  pub within : position ≤ length bits
  pub held : (k : ℕ) → ¬ (position % 8 ≡ 0) → k / 8 ≡ position / 8
      → chunk_bit 1 byte k ≡ slice_index_or bits k false
