-- Entries of chunks, with the appended chunks stored apart from them.
use Rattle.std.specs.Prelude.{◌≡◌, ℕ, ◌+◌, ◌<◌, ◌≤◌, ◌⊎◌, List, [], ◌∷◌, ◌++◌, length, if◌then◌else◌, nat_lt, nat_eq, None}
use Rattle.std.specs.Map.{lookup}
use Rattle.bitmap_bytes.specs.Chunk.{IsWidth}
use Rattle.chunk_map.specs.Trie.{IsAt}
use Rattle.historical_bitmap.specs.declared.bitmap.historical.edited.Slot.{Slot}
use Rattle.historical_bitmap.specs.declared.bitmap.historical.edited.Slot.TheVariants.{Appended, Stored}

-- the entries of the appended chunks, of which the first has the index `from`
abbrev pub appended_entries : ℕ → List (List ℕ) → List (ℕ × List ℕ)
appended_entries from [] = []
appended_entries from (chunk ∷ chunks) = (from, chunk) ∷ appended_entries (from + 1) chunks

-- the entries of indices below `from`, then those of the appended chunks, then the other entries
abbrev pub with_appended : ℕ → List (List ℕ) → List (ℕ × List ℕ) → List (ℕ × List ℕ)
with_appended from chunks [] = appended_entries from chunks
with_appended from chunks (entry ∷ entries) = if nat_lt entry.0 from
    then entry ∷ with_appended from chunks entries
    else appended_entries from chunks ++ (entry ∷ entries)

-- no index of an appended chunk is among the other entries
pub record IsAppended (n : ℕ) (entries : List (ℕ × List ℕ)) (from : ℕ)
    (chunks : List (List ℕ)) : Type 0 where
  pub width : IsWidth n
  pub apart : (q : ℕ) → from ≤ q → q < from + length chunks → lookup (nat_eq q) entries ≡ None

-- an index is none of `count` indices from `first` on
abbrev pub IsBeside : ℕ → ℕ → ℕ → Type 0
IsBeside first count index = (index < first) ⊎ (first + count ≤ index)

-- a slot is that of the chunk at an index: the places of the map have some indices, and there are `count` appended chunks, of which the first has the index `first`
abbrev pub IsSlot : List ℕ → ℕ → ℕ → ℕ → Slot → Type 0
IsSlot indices first count index (Appended place) = (index ≡ first + place) × (place < count)
IsSlot indices first count index (Stored place) = IsBeside first count index
    × IsAt indices index place
