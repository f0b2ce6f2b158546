-- A historical bitmap and the historical bitmap of its digests: what holds of the two, and the versions that they give. A chunk has n bytes.
use Rattle.std.specs.Prelude.{⊤, ◌≡◌, ℕ, List, [], Option, Some, None, if◌then◌else◌, nat_lt}
use Rattle.bitmap_core.specs.PrunedBits.{PrunedBits}
use Rattle.historical_bitmap.specs.History.{kept_under}
use Rattle.historical_bitmap.specs.View.{View, history_of}
use Rattle.authenticated_bitmap.specs.LeafDigests.{Authenticates, bitmap_of}
use Rattle.authenticated_bitmap.specs.Root.{Bitmap, chunk_count, chunk_digests}
use Rattle.authenticated_bitmap.specs.Tree.{audit_path}

-- a bitmap with its digests: the hash, the historical bitmap, with or without pending edits, and the historical bitmap of width 32 that stores the digests
pub record Authenticated (D S : Type 0) : Type 0 where
  pub hash : D
  pub bits : View S
  pub digests : View ⊤

-- a historical bitmap with no bits, no pruned chunks and no commits
abbrev pub nothing : View ⊤
nothing = record {
  current = record { pruned = 0; bits = [] };
  commits = [];
  last = None;
  state = tt;
}

-- the second state authenticates the first, or there is neither
abbrev pub AuthenticatesIf : (List ℕ → List ℕ) → ℕ → Option PrunedBits → Option PrunedBits → Type 0
AuthenticatesIf H n None None = ⊤
AuthenticatesIf H n None (Some t) = ⊥
AuthenticatesIf H n (Some s) None = ⊥
AuthenticatesIf H n (Some s) (Some t) = Authenticates H n s t

-- the digests follow a bitmap: they authenticate its current bitmap, and the bitmap at each kept commit; both have the same kept numbers and the same last number
pub record Follows {S : Type 0} (H : List ℕ → List ℕ) (n : ℕ) (bits : View S)
    (digests : View ⊤) : Type 0 where
  pub current : Authenticates H n bits.current digests.current
  pub kept : (k : ℕ) → AuthenticatesIf H n (kept_under (history_of n bits) k)
      (kept_under (history_of 32 digests) k)
  pub last : digests.last ≡ bits.last

-- a state as its root has it, if there are the state and its digests
abbrev pub bitmap_if : ℕ → Option PrunedBits → Option PrunedBits → Option Bitmap
bitmap_if n None t = None
bitmap_if n (Some s) None = None
bitmap_if n (Some s) (Some t) = Some (bitmap_of n s t)

-- the current bitmap as its root has it
abbrev pub current_of : {D S : Type 0} → ℕ → Authenticated D S → Bitmap
current_of n v = bitmap_of n v.bits.current v.digests.current

-- the bitmap at a commit as its root has it, if the commit is kept
abbrev pub version_of : {D S : Type 0} → ℕ → Authenticated D S → ℕ → Option Bitmap
version_of n v number = bitmap_if n (kept_under (history_of n v.bits) number)
    (kept_under (history_of 32 v.digests) number)

-- the audit path of chunk i of a bitmap, if there are the bitmap and the chunk
abbrev pub path_if : (List ℕ → List ℕ) → ℕ → Option Bitmap → Option (List (List ℕ))
path_if H i None = None
path_if H i (Some b) = if nat_lt i (chunk_count b.shape)
    then Some (audit_path H i (chunk_digests H b)) else None
