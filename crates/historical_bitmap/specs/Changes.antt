-- The chunks in which two states of a bitmap differ. A chunk has n bytes.
use Rattle.std.specs.Prelude.{ℕ, ◌*◌, ◌/◌, max, not, ◌&&◌, Bool, List, [], ◌∷◌, Option, Some, None, if◌then◌else◌, nat_eq, nat_le, nat_lt}
use Rattle.std.specs.Cmp.Lexicographic.{pointwise}
use Rattle.std.specs.Int.{div_ceil}
use Rattle.std.specs.List.{filter}
use Rattle.std.specs.Option.{option_eq}
use Rattle.std.specs.Set.{is_member}
use Rattle.bitmap_core.specs.PrunedBits.{PrunedBits, bit_len, chunk, from_bits}
use Rattle.historical_bitmap.specs.Edits.{from_to}
use Rattle.historical_bitmap.specs.History.{kept_under}
use Rattle.historical_bitmap.specs.Record.{bit_or_else}

-- the bytes of chunk i, if the chunk is retained; bits past the length are zero
abbrev pub retained_bytes : ℕ → PrunedBits → ℕ → Option (List ℕ)
retained_bytes n b i = if nat_le b.pruned i && nat_lt (8 * n * i) (bit_len n b)
    then Some (chunk n b i) else None

-- whether chunk i differs: it is retained in only one of the two states, or its bytes differ
abbrev pub differs : ℕ → PrunedBits → PrunedBits → ℕ → Bool
differs n old new i = not
    (option_eq (pointwise nat_eq) (retained_bytes n old i) (retained_bytes n new i))

-- the number of chunks: pruned ones count, and so does an incomplete last one
abbrev pub chunk_total : ℕ → PrunedBits → ℕ
chunk_total n b = div_ceil (bit_len n b) (8 * n)

-- the indices of the chunks that differ, from `first` up to, but not including, `end`
abbrev pub changed_from : ℕ → PrunedBits → PrunedBits → ℕ → ℕ → List ℕ
changed_from n old new first end = filter (differs n old new) (from_to first end)

-- the indices of the chunks that differ, ascending
abbrev pub changed : ℕ → PrunedBits → PrunedBits → List ℕ
changed n old new = changed_from n old new 0 (max (chunk_total n old) (chunk_total n new))

-- an index with its bytes, if there are any, before others
abbrev pub with_bytes : ℕ → Option (List ℕ) → List (ℕ × List ℕ) → List (ℕ × List ℕ)
with_bytes i None others = others
with_bytes i (Some bytes) others = (i, bytes) ∷ others

-- those of the given chunks that a bitmap retains, with their bytes
abbrev pub listed : ℕ → PrunedBits → List ℕ → List (ℕ × List ℕ)
listed n new [] = []
listed n new (i ∷ is) = with_bytes i (retained_bytes n new i) (listed n new is)

-- the indices of the chunks that differ, if there are both states
abbrev pub changed_if : ℕ → Option PrunedBits → Option PrunedBits → Option (List ℕ)
changed_if n (Some old) (Some new) = Some (changed n old new)
changed_if n (Some old) None = None
changed_if n None new = None

-- the chunks that differ between the states under two numbers, if both are kept and the first is at most the second
abbrev pub changed_between : ℕ → List (ℕ × PrunedBits) → ℕ → ℕ → Option (List ℕ)
changed_between n history from to = if nat_le from to
    then changed_if n (kept_under history from) (kept_under history to) else None

-- the bytes of chunk i of the new state, if i is in the list
abbrev pub sent_bytes : ℕ → PrunedBits → List ℕ → ℕ → Option (List ℕ)
sent_bytes n new sent i = if is_member nat_eq sent i then Some (chunk n new i) else None

-- the first state with the length, the pruned count and the listed chunks of the second
abbrev pub patched : ℕ → PrunedBits → PrunedBits → List ℕ → PrunedBits
patched n old new sent =
    from_bits n new.pruned (bit_len n new)
    (λ k. bit_or_else n (sent_bytes n new sent (k / (8 * n))) old k)
