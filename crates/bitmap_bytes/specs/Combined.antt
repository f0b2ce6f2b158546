-- Two bits combined by a function, for every bit of two lists of chunks.
use Rattle.std.specs.Prelude.{◌≡◌, ℕ, ◌<◌, Bool, false, List, [], length, slice_index_or}
use Rattle.std.proofs.Common.{refl}
use Rattle.std.proofs.Math.Bool.{xor}
use Rattle.bitmap_bytes.specs.Chunk.{chunk_bit}

-- two zeros differ nowhere, so their xor is zero
pub xor_zeros : xor false false ≡ false
unfolding xor
xor_zeros = refl

-- each bit of the new chunks is f of the same bit of the old chunks and of the others
pub record IsCombined (n : ℕ) (f : Bool → Bool → Bool)
    (old others new : List (List ℕ)) : Type 0 where
  pub count : length new ≡ length old
  pub bits : (i : ℕ) → i < length old → (t : ℕ)
      → chunk_bit n (slice_index_or new i []) t
      ≡ f (chunk_bit n (slice_index_or old i []) t) (chunk_bit n (slice_index_or others i []) t)
