-- The entries that a state accepts. A chunk has n bytes.
use Rattle.std.specs.Prelude.{◌≡◌, ℕ, ◌*◌, ◌≤◌, List, [], ◌∷◌, Option, None, IsSome}
use Rattle.bitmap_core.specs.PrunedBits.{PrunedBits}
use Rattle.historical_bitmap.specs.History.{kept_under}
use Rattle.historical_bitmap.specs.View.{commit_error}
use Rattle.commit_log.specs.declared.error.ApplyError.{ApplyError}
use Rattle.commit_log.specs.declared.error.ApplyError.TheVariants as failures
use Rattle.commit_log.specs.declared.error.EntryError.{EntryError}
use Rattle.commit_log.specs.declared.error.EntryError.TheVariants as errors
use Rattle.commit_log.specs.Entries.{Change, Entry}
use Rattle.commit_log.specs.Entries.Entry.{Commit, Rewind, DropBefore, Clear}
use Rattle.commit_log.specs.Kept.{Kept, after, applied, change_to}

-- the extent after a change: nothing that is pruned comes back, and the length covers what is pruned
pub record HasExtent (n : ℕ) (old : PrunedBits) (c : Change) : Type 0 where
  pub rises : old.pruned ≤ c.pruned
  pub covers : 8 * n * c.pruned ≤ c.len

-- a change is the one to the bitmap that it makes: it lists the chunks that differ, ascending, each with its new bytes, and nothing else
abbrev pub IsCanonical : ℕ → PrunedBits → Change → Type 0
IsCanonical n old c = change_to n c.number old (applied n old c) ≡ c

-- a change that may follow a bitmap
pub record Follows (n : ℕ) (old : PrunedBits) (c : Change) : Type 0 where
  pub extent : HasExtent n old c
  pub changed : IsCanonical n old c

-- an entry that a state accepts: a commit under a number above the last one and not reserved, whose change may follow; a rewind to a kept number; any drop
abbrev pub Accepts : ℕ → Kept → Entry → Type 0
Accepts n s (Commit c) = (commit_error s.last c.number ≡ None) × Follows n s.current c
Accepts n s (Rewind number) = IsSome (kept_under s.history number)
Accepts n s (DropBefore number) = Unit {0}
Accepts n s Clear = Unit {0}

-- each entry is accepted by the state that those before it make
abbrev pub AcceptsAll : ℕ → Kept → List Entry → Type 0
AcceptsAll n s [] = Unit {0}
AcceptsAll n s (e ∷ es) = Accepts n s e × AcceptsAll n (after n s e) es

-- why a change does not follow a bitmap with a last number: its number, else its extent, else its list of chunks
abbrev pub IsChangeError : ℕ → PrunedBits → Option ℕ → Change → EntryError → Type 0
IsChangeError n old last c errors.Number = commit_error last c.number ≡ None → ⊥
IsChangeError n old last c errors.Length = (commit_error last c.number ≡ None)
    × (HasExtent n old c → ⊥)
IsChangeError n old last c errors.Chunks =
    (commit_error last c.number ≡ None) × HasExtent n old c × (IsCanonical n old c → ⊥)
IsChangeError n old last c errors.NoSuchCommit = ⊥
IsChangeError n old last c (errors.Decode e) = ⊥

-- why a change was not applied: it does not follow, or it does, and an allocation failed
abbrev pub IsApplyError : ℕ → Kept → Change → ApplyError → Type 0
IsApplyError n s c (failures.Entry e) = IsChangeError n s.current s.last c e
IsApplyError n s c (failures.Memory e) = Accepts n s (Commit c)
