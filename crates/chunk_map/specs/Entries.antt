-- What a map of chunks contains.
use Rattle.std.specs.Prelude.{◌≡◌, ℕ, ◌*◌, ◌^◌, ◌<◌, ◌≤◌, List, [], ◌∷◌, length, true, false, if◌then◌else◌, Option, MatchOption, nat_eq, slice_index}
use Rattle.std.specs.BTreeMap.{insert_entry, is_at}
use Rattle.std.specs.Map.{lookup, set_value}
use Rattle.std.specs.Ordering.{nat_cmp}
use Rattle.std.specs.Set.{is_member}
use Rattle.chunk_map.specs.Trie.{AreApart}

-- the entries, ascending by index, and the index of the chunk at each place
pub record ChunkEntries : Type 0 where
  pub entries : List (ℕ × List ℕ)
  pub indices : List ℕ

-- the entries of some indices and their values, ascending by index
abbrev pub entries_of : {X : Type 0} → List ℕ → List X → List (ℕ × X)
entries_of [] values = []
entries_of (index ∷ indices) [] = []
entries_of (index ∷ indices) (value ∷ values) =
    insert_entry nat_cmp (entries_of indices values) index value

-- a chunk of n bytes for each index, and distinct indices
pub record IsPaired (n : ℕ) (indices : List ℕ) (chunks : List (List ℕ)) : Type 0 where
  pub fits : 8 * n < 2 ^ 64
  pub sizes : length chunks ≡ length indices
  pub apart : AreApart indices

-- the new entries have o under i, and the old values under every other key
abbrev pub Puts : {X : Type 0} → List (ℕ × X) → List (ℕ × X) → ℕ → Option X → Type 0
Puts old new i o = (q : ℕ)
    → lookup (nat_eq q) new ≡ (if nat_eq q i then o else lookup (nat_eq q) old)

-- the least number of xs that is at least `from`, if there is one
abbrev pub IsNextMember : List ℕ → ℕ → Option ℕ → Type 0
IsNextMember xs from next = MatchOption next
    ((j : ℕ) → from ≤ j → is_member nat_eq xs j ≡ false)
    (λ i. (from ≤ i) × (is_member nat_eq xs i ≡ true)
    × ((j : ℕ) → from ≤ j → j < i → is_member nat_eq xs j ≡ false))

-- the entries with another chunk under an index that has one
abbrev pub with_chunk : List (ℕ × List ℕ) → ℕ → List ℕ → List (ℕ × List ℕ)
with_chunk entries index chunk = set_value (is_at (nat_cmp index)) entries chunk

-- the entries and indices with another chunk at a place
abbrev pub with_chunk_at : ChunkEntries → ℕ → List ℕ → ChunkEntries
with_chunk_at m place chunk =
    record { entries = with_chunk m.entries (slice_index m.indices place) chunk; indices = m.indices }
