-- What a crash leaves while a device at rest is changed, and the change is synced.
use Rattle.std.proofs.Common.{ℕ, List, subst, sym}
use Rattle.log_store.specs.Device.{Elapses}
use Rattle.log_store.specs.Moments.{IsAtRest, LeavesOnly}
use Rattle.log_store.specs.declared.device.Device.{Ghosts}
use Rattle.log_store.proofs.Moments.{goes_on, unchanged}

module _ {D : Type 0} (g : Ghosts D) where
  -- after the change
  pub change_leaves : (old new : D) (P : List ℕ → Type 0) → IsAtRest g old → ((c : List ℕ) → g.left_since old (g.moment old) c → g.may_leave old c) → Elapses (g.moment old) (g.moment new) (g.left_since old) (g.left_since new) (g.may_leave new)
      → P (g.seen old) → ((c : List ℕ) → g.may_leave new c → P c) → LeavesOnly g old new P
  change_leaves old new P rest now time here after =
      goes_on g old old new P (g.may_leave new) (unchanged g old P now (λ c left. subst P (sym (rest.only c left)) here)) time after

  -- and after the sync
  pub sync_leaves : (old mid new : D) (P : List ℕ → Type 0) → LeavesOnly g old mid P → Elapses (g.moment mid) (g.moment new) (g.left_since mid) (g.left_since new) (g.may_leave new)
      → ((c : List ℕ) → g.may_leave mid c → P c) → ((c : List ℕ) → g.may_leave new c → g.may_leave mid c) → LeavesOnly g old new P
  sync_leaves old mid new P so_far time after fewer = goes_on g old mid new P (g.may_leave new) so_far time (λ c left. after c (fewer c left))
