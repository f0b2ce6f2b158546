-- What of a session outlives its process, and why a session does not apply a delta.
use Rattle.std.specs.Prelude.{◌≡◌, ℕ, ◌<◌, true, List, [], None, Some, Result, IfErr, MatchResult, OnErr, OnOk, alloc_error}
use Rattle.bitmap_core.specs.PrunedBits.{PrunedBits}
use Rattle.historical_bitmap.specs.History.{kept_under}
use Rattle.commit_log.specs.Delta.{Brings, IsDeltaError, IsStep, committed, delta_between, encode_delta}
use Rattle.commit_log.specs.declared.deltas.DeltaError.TheVariants.{Memory}
use Rattle.commit_log.specs.Kept.{Kept}
use Rattle.bitmap_session.specs.declared.session.saved.ApplyDeltaError.{ApplyDeltaError}
use Rattle.bitmap_session.specs.declared.session.saved.ApplyDeltaError.TheVariants as errors
use Rattle.bitmap_session.specs.Laws.{HasRisingNumbers}
use Rattle.bitmap_session.specs.Machine.{Machine, State, is_dirty}

-- the kept part of a state: the current bitmap, the kept bitmaps by number, and the last number
abbrev pub kept_part : State → Kept
kept_part s = record { current = s.current; history = s.history; last = s.last }

-- a machine is outside a batch, and has touched no chunk
abbrev pub IsOutside : Machine → Type 0
IsOutside m = (m.state.pending ≡ None) × (m.touched ≡ [])

-- outside a batch, the kept bitmap under a number is a step from that under a smaller number, for chunks of n bytes
abbrev pub KeepsStep : (n : ℕ) → Machine → (from to : ℕ) → Type 0
KeepsStep n m from to = IsOutside m → (old new : PrunedBits) → from < to
    → kept_under m.state.history from ≡ Some old → kept_under m.state.history to ≡ Some new
    → IsStep n from old to new

-- why a session of chunks of n bytes does not apply bytes as a delta: it is in a batch, or outside one the bytes have this error
abbrev pub IsApplyDeltaError : ℕ → Machine → List ℕ → ApplyDeltaError → Type 0
IsApplyDeltaError n m bytes errors.InBatch = is_dirty m.state ≡ true
IsApplyDeltaError n m bytes (errors.Delta e) = IsOutside m
    × IsDeltaError n (kept_part m.state) bytes e

-- what applying bytes as a delta makes of a machine of chunks of n bytes, and what it returns
pub record AppliesDelta {T : Type 0} (n : ℕ) (bytes : List ℕ) (old : Machine)
    (r : Result T ApplyDeltaError) (new : Machine) : Type 0 where
  pub outside : OnOk r (IsOutside old × IsOutside new)
  pub entry : OnOk r (Brings n bytes (kept_part old.state) (kept_part new.state))
  pub error : IfErr r (λ e. IsApplyDeltaError n old bytes e)
  pub unchanged : OnErr r (new ≡ old)
  pub complete : (t : Kept) → IsOutside old → Brings n bytes (kept_part old.state) t
      → IfErr r (λ e. e ≡ errors.Delta (Memory alloc_error))
  pub newer : (from to : ℕ) (bitmap : PrunedBits) → IsOutside old
      → IsStep n from old.state.current to bitmap → old.state.last ≡ Some from
      → bytes ≡ encode_delta n (delta_between n from old.state.current to bitmap)
      → MatchResult r (λ _. kept_part new.state ≡ committed (kept_part old.state) to bitmap)
      (λ e. e ≡ errors.Delta (Memory alloc_error))
  pub rises : HasRisingNumbers old.state → HasRisingNumbers new.state
