-- Messages to replicas. A chunk has n bytes.
use Rattle.std.specs.Prelude.{◌≡◌, ℕ, List, Option}
use Rattle.bitmap_core.specs.PrunedBits.{PrunedBits, bit_len, IsRetainedChunk}
use Rattle.historical_bitmap.specs.Changes.{changed, sent_bytes}
use Rattle.commit_log.specs.Delta.{IsStep, delta_between, encode_delta}

-- a message brings the older version to the newer one: it has the length and the pruned count of the newer one, and of the chunks that this retains the bytes of those that differ
pub record Brings (n : ℕ) (older newer : PrunedBits) (len pruned : ℕ)
    (received : ℕ → Option (List ℕ)) : Type 0 where
  pub len_is : len ≡ bit_len n newer
  pub pruned_is : pruned ≡ newer.pruned
  pub bytes : (i : ℕ) → IsRetainedChunk n newer i
      → received i ≡ sent_bytes n newer (changed n older newer) i

-- a made bitmap is the newer version: each one to which the message brings the older version
abbrev pub IsNewer : ℕ → PrunedBits → ℕ → ℕ → (ℕ → Option (List ℕ)) → PrunedBits → Type 0
IsNewer n older len pruned received made = (newer : PrunedBits)
    → Brings n older newer len pruned received → made ≡ newer

-- bytes are the delta from a version to a newer one: they encode the change between the two, which a replica that is at the older one can make
pub record IsDelta (n from : ℕ) (older : PrunedBits) (to : ℕ) (newer : PrunedBits)
    (bytes : List ℕ) : Type 0 where
  pub step : IsStep n from older to newer
  pub encoded : bytes ≡ encode_delta n (delta_between n from older to newer)
