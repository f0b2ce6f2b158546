-- What a crash leaves while all bytes of a device are replaced.
use Rattle.std.proofs.Common.{◌≡◌, ◌⊎◌, inl, inr, ⊎_elim, ℕ, List, sym, ◌∙◌}
use Rattle.log_store.specs.Device.{Only}
use Rattle.log_store.specs.Moments.{IsAtRest, IsEither, LeavesOnly, Stays}
use Rattle.log_store.specs.declared.device.Device.{Ghosts}
use Rattle.log_store.proofs.Moments.{goes_on, unchanged}

module _ {D : Type 0} (g : Ghosts D) where
  -- a device at rest stays at rest
  pub stays_at_rest : (old new : D) → IsAtRest g old → Stays g old new → IsAtRest g new
  stays_at_rest old new rest stays = record { works = stays.works; only = λ c left. rest.only c (stays.fewer c left) ∙ sym stays.seen }

  -- while it stays so
  pub first_stays : (old new : D) (bytes : List ℕ) → IsAtRest g old → ((c : List ℕ) → g.left_since old (g.moment old) c → g.may_leave old c) → Stays g old new → LeavesOnly g old new (IsEither (g.seen old) bytes)
  first_stays old new bytes rest now stays =
      goes_on g old old new (IsEither (g.seen old) bytes) (g.may_leave new) (unchanged g old (IsEither (g.seen old) bytes) now (λ c left. inl (rest.only c left))) stays.time (λ c left. inl (rest.only c (stays.fewer c left)))

  -- while it still does
  pub still_stays : (old mid new : D) (bytes : List ℕ) → LeavesOnly g old mid (IsEither (g.seen old) bytes) → ((c : List ℕ) → g.may_leave mid c → IsEither (g.seen old) bytes c) → Stays g mid new → LeavesOnly g old new (IsEither (g.seen old) bytes)
  still_stays old mid new bytes so_far here stays = goes_on g old mid new (IsEither (g.seen old) bytes) (g.may_leave new) so_far stays.time (λ c left. here c (stays.fewer c left))

  -- after the rename
  pub renamed : (old mid : D) (bytes beside c : List ℕ) (left beside_left : List ℕ → Type 0) → IsAtRest g mid → g.seen mid ≡ g.seen old → beside ≡ bytes → Only beside beside_left → ((d : List ℕ) → left d → g.may_leave mid d ⊎ beside_left d) → left c
      → IsEither (g.seen old) bytes c
  renamed old mid bytes beside c left beside_left rest same is only crash here =
      ⊎_elim (λ (was : g.may_leave mid c). inl (rest.only c was ∙ same)) (λ (new : beside_left c). inr (only c new ∙ is)) (crash c here)
