-- The words of a chunk of n bytes: 64 bits each, one after another from the start of the chunk. The last one may be short.
use Rattle.std.specs.Prelude.{◌≡◌, ℕ, ◌+◌, ◌-◌, ◌*◌, ◌%◌, ◌<◌, ◌≤◌, Bool, false, ◌==◌, nat_lt, if◌then◌else◌}
use Rattle.std.specs.Int.{bit_at}

-- whether a word begins at position k
abbrev pub starts_word : ℕ → ℕ → Bool
starts_word n k = ((k % (8 * n)) % 64) == 0

-- the position at which the word that contains position k begins
abbrev pub word_start : ℕ → ℕ → ℕ
word_start n k = k - (k % (8 * n)) % 64

-- the position at which the next word begins after the word at k
abbrev pub next_word : ℕ → ℕ → ℕ
next_word n k = k + (if nat_lt (k % (8 * n) + 64) (8 * n) then 64 else 8 * n - k % (8 * n))

-- the word at base has no set bit at or past position end
abbrev pub IsCut : ℕ → ℕ → ℕ → Type 0
IsCut base word end = (i : ℕ) → i < 64 → end ≤ base + i → (bit_at word i == 1) ≡ false

-- the word at base has the bits of f at the positions from `at` up to `to`, `to` excluded, and zeros elsewhere
pub record IsPart (f : ℕ → Bool) (base word at to : ℕ) : Type 0 where
  pub inside : (i : ℕ) → i < 64 → at ≤ base + i → base + i < to
      → (bit_at word i == 1) ≡ f (base + i)
  pub before : (i : ℕ) → i < 64 → base + i < at → (bit_at word i == 1) ≡ false
  pub past : (i : ℕ) → i < 64 → to ≤ base + i → (bit_at word i == 1) ≡ false
