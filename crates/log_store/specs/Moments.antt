-- What a crash leaves of a device, at a moment and during calls.
use Rattle.std.specs.Prelude.{◌≡◌, ◌⊎◌, ℕ, ◌≤◌, List}
use Rattle.log_store.specs.Device.{Elapses, Only}
use Rattle.log_store.specs.declared.device.Device.{Ghosts}

-- a device behaves as the model, and a crash leaves what a read returns and nothing else
pub record IsAtRest {D : Type 0} (g : Ghosts D) (device : D) : Type 0 where
  pub works : g.behaves device
  pub only : Only (g.seen device) (g.may_leave device)

-- a crash at any moment since old, up to new, leaves bytes that have P
pub record LeavesOnly {D : Type 0} (g : Ghosts D) (old new : D) (P : List ℕ → Type 0) : Type 0 where
  pub later : g.moment old ≤ g.moment new
  pub each : (c : List ℕ) → g.left_since new (g.moment old) c → P c
  -- for a sequence of calls that began earlier
  pub before : (t : ℕ) (c : List ℕ) → t ≤ g.moment old → g.left_since new t c
      → g.left_since old t c ⊎ P c

-- a call leaves the bytes of a device as they were: a crash leaves no more than before
pub record Stays {D : Type 0} (g : Ghosts D) (old new : D) : Type 0 where
  pub works : g.behaves new
  pub seen : g.seen new ≡ g.seen old
  pub fewer : (c : List ℕ) → g.may_leave new c → g.may_leave old c
  pub time : Elapses (g.moment old) (g.moment new) (g.left_since old) (g.left_since new)
      (g.may_leave new)

-- one of two contents
abbrev pub IsEither : List ℕ → List ℕ → List ℕ → Type 0
IsEither old new c = (c ≡ old) ⊎ (c ≡ new)
