-- A device at rest is at rest after a read.
use Rattle.std.proofs.Common.{◌≡◌, List, ℕ, sym, ◌∙◌}
use Rattle.log_store.specs.Device.{Elapses}
use Rattle.log_store.specs.Moments.{IsAtRest, LeavesOnly}
use Rattle.log_store.specs.declared.device.Device.{Ghosts}
use Rattle.log_store.proofs.Moments.{goes_on, unchanged}

module _ {D : Type 0} (g : Ghosts D) where
  pub read_rests : (old new : D) → IsAtRest g old → g.behaves new → g.seen new ≡ g.seen old → ((c : List ℕ) → g.may_leave new c → g.may_leave old c) → IsAtRest g new
  read_rests old new rest works seen fewer = record { works = works; only = λ c left. rest.only c (fewer c left) ∙ sym seen }

  pub read_leaves : (old new : D) → IsAtRest g old → ((c : List ℕ) → g.left_since old (g.moment old) c → g.may_leave old c) → Elapses (g.moment old) (g.moment new) (g.left_since old) (g.left_since new) (g.may_leave new)
      → ((c : List ℕ) → g.may_leave new c → g.may_leave old c) → LeavesOnly g old new (λ c. c ≡ g.seen old)
  read_leaves old new rest now time fewer =
      goes_on g old old new (λ c. c ≡ g.seen old) (g.may_leave new) (unchanged g old (λ c. c ≡ g.seen old) now rest.only) time (λ c left. rest.only c (fewer c left))
