-- A past state from the old bytes gathered from records: read, or rewound to in place, with the restored extent and the bytes written back. A chunk has n bytes.
use Rattle.std.specs.Prelude.{◌≡◌, ℕ, ◌*◌, ◌/◌, List, [], Option, if◌then◌else◌, ◌&&◌, nat_eq, nat_le, nat_lt}
use Rattle.std.specs.Int.{div_ceil}
use Rattle.std.specs.List.Sorted.{IsStrictlySortedBy}
use Rattle.std.specs.Map.{keys_of, lookup}
use Rattle.std.specs.Option.{option_or}
use Rattle.std.specs.Ordering.{nat_cmp}
use Rattle.bitmap_core.specs.PrunedBits.{PrunedBits, bit_at, bit_len, IsRetained}
use Rattle.historical_bitmap.specs.History.{first_kept, IsLeftBy, past_number}
use Rattle.historical_bitmap.specs.Record.{ReverseRecord, bit_or_else}

-- what is under index i after a chunk's old bytes, if they are found, replace what was there, if the index is from `first` up to, but not including, `end`
abbrev pub gathered : ℕ → ℕ → ℕ → Option (List ℕ) → Option (List ℕ) → Option (List ℕ)
gathered first end i found old = if nat_le first i && nat_lt i end then option_or found old else old

-- the new chunks are the old ones, with the old bytes that are found for each index of a range
abbrev pub Gathers : (ℕ → Option (List ℕ)) → ℕ → ℕ → List (ℕ × List ℕ) → List (ℕ × List ℕ) → Type 0
Gathers found first end old new = (i : ℕ)
    → lookup (nat_eq i) new ≡ gathered first end i (found i) (lookup (nat_eq i) old)

-- the chunks, with these ascending indices, are the old bytes that later records keep of the state at a number, which has this length and pruned count
pub record IsGathered (n number : ℕ) (commits : List (ℕ × ReverseRecord)) (current : PrunedBits)
    (len pruned : ℕ) (changed : List (ℕ × List ℕ)) (indices : List ℕ) : Type 0 where
  pub extent : IsLeftBy n number commits current len pruned
  pub bytes : Gathers (first_kept (past_number number commits)) pruned
      (div_ceil len (8 * n)) [] changed
  pub indices_are : indices ≡ keys_of changed
  pub ascend : IsStrictlySortedBy nat_cmp indices

-- the new bitmap has a pruned count and a length, and the bits of the old one at the positions that both retain
pub record HasExtent (n : ℕ) (old : PrunedBits) (pruned len : ℕ) (new : PrunedBits) : Type 0 where
  pub pruned_is : new.pruned ≡ pruned
  pub len_is : bit_len n new ≡ len
  pub bits : (k : ℕ) → IsRetained n old k → IsRetained n new k → bit_at n new k ≡ bit_at n old k

-- the new bitmap is the old one with the bits of some chunks replaced by those of given bytes
pub record IsWrittenBack (n : ℕ) (old : PrunedBits) (chunks : List (ℕ × List ℕ))
    (new : PrunedBits) : Type 0 where
  pub pruned : new.pruned ≡ old.pruned
  pub len : bit_len n new ≡ bit_len n old
  pub bits : (k : ℕ) → IsRetained n old k
      → bit_at n new k ≡ bit_or_else n (lookup (nat_eq (k / (8 * n))) chunks) old k
