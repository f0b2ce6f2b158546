-- What the calls of a device do to its bytes, and what a crash may leave between two syncs.
use Rattle.std.specs.Prelude.{◌≡◌, ◌⊎◌, ℕ, ◌+◌, ◌<◌, ◌≤◌, List, [], ◌∷◌, ◌++◌, length, take, drop, Result, IfErr}
use Rattle.log_store.specs.declared.device.DeviceError.{DeviceError}
use Rattle.log_store.specs.declared.device.DeviceError.TheVariants.{Memory, Failed}

-- some bytes with another one at a position
abbrev pub with_byte : ℕ → ℕ → List ℕ → List ℕ
with_byte at byte bytes = take at bytes ++ byte ∷ drop (at + 1) bytes

-- THE HYPOTHESIS OF TORN BLOCKS, about the bytes before an append, a cut or the setting of a byte, and the bytes after it: if all bytes were kept before, a crash before the next sync leaves one of the two bytes at each position at which both have a byte, and any bytes after these, no more than the longer one has.
-- So any blocks of a change, of any size, may have reached the disk, in any order; where a file grew, there may be zeros or whatever the disk had there; and its length is anywhere between. What is assumed is that a byte which a change leaves as it was is kept, and that one byte is never half written.
abbrev pub MayTear : List ℕ → List ℕ → List ℕ → Type 0
MayTear [] new c = length c ≤ length new
MayTear (x ∷ old) [] c = length c ≤ length (x ∷ old)
MayTear (x ∷ old) (y ∷ new) [] = ⊥
MayTear (x ∷ old) (y ∷ new) (z ∷ c) = ((z ≡ x) ⊎ (z ≡ y)) × MayTear old new c

-- a crash leaves these bytes and nothing else
abbrev pub Only : List ℕ → (List ℕ → Type 0) → Type 0
Only bytes outcomes = (c : List ℕ) → outcomes c → c ≡ bytes

-- time passes: a crash since t might have left what it might have left before, or what it may leave now
pub record Elapses (before now : ℕ) (past since : ℕ → List ℕ → Type 0)
    (may_leave : List ℕ → Type 0) : Type 0 where
  pub later : before ≤ now
  pub nothing_else : (t : ℕ) (c : List ℕ) → t ≤ before → since t c → past t c ⊎ may_leave c
  pub keeps : (t : ℕ) (c : List ℕ) → t ≤ before → past t c → since t c

-- an error says that the device failed
abbrev pub IsFailed : DeviceError → Type 0
IsFailed (Memory error) = ⊥
IsFailed (Failed number) = Unit {0}

-- an error says that the device failed only if it has failed since
pub record HasCause {T : Type 0} (before now : ℕ) (result : Result T DeviceError) : Type 0 where
  pub later : before ≤ now
  pub failed : IfErr result (λ e. IsFailed e → before < now)
