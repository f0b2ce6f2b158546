-- What a crash leaves during calls of a device, one after another.
use Rattle.std.proofs.Common.{inl, inr, ⊎_elim, ℕ, List, arith}
use Rattle.log_store.specs.Moments.{LeavesOnly}
use Rattle.log_store.specs.Device.{Elapses}
use Rattle.log_store.specs.declared.device.Device.{Ghosts}

module _ {D : Type 0} (g : Ghosts D) where
  -- before the first call
  pub started : (old : D) (P : List ℕ → Type 0) → ((c : List ℕ) → g.left_since old (g.moment old) c → P c) → LeavesOnly g old old P
  started old P here = record { later = omega arith; each = here; before = λ t c le left. inl left }

  -- one more call, after which a crash leaves bytes that have P
  pub goes_on : (old mid new : D) (P may_leave : List ℕ → Type 0) → LeavesOnly g old mid P → Elapses (g.moment mid) (g.moment new) (g.left_since mid) (g.left_since new) may_leave
      → ((c : List ℕ) → may_leave c → P c) → LeavesOnly g old new P
  goes_on old mid new P may_leave so_far time here = record {
    later = omega (arith, so_far.later, time.later);
    each = λ c left. ⊎_elim (so_far.each c) (here c) (time.nothing_else (g.moment old) c so_far.later left);
    before = λ t c le left. ⊎_elim (so_far.before t c le) (λ now. inr (here c now)) (time.nothing_else t c (omega (arith, le, so_far.later)) left);
  }

  -- no call
  pub unchanged : (device : D) (P : List ℕ → Type 0) → ((c : List ℕ) → g.left_since device (g.moment device) c → g.may_leave device c) → ((c : List ℕ) → g.may_leave device c → P c) → LeavesOnly g device device P
  unchanged device P now here = started device P (λ c left. here c (now c left))

  -- some calls, and then others
  pub joined : (old mid new : D) (P Q R : List ℕ → Type 0) → LeavesOnly g old mid P → LeavesOnly g mid new Q → ((c : List ℕ) → P c → R c) → ((c : List ℕ) → Q c → R c) → LeavesOnly g old new R
  joined old mid new P Q R one two p q = record {
    later = omega (arith, one.later, two.later);
    each = λ c left. ⊎_elim (λ was. p c (one.each c was)) (λ now. q c now) (two.before (g.moment old) c one.later left);
    before = λ t c le left. ⊎_elim (λ was. ⊎_elim (λ w. inl w) (λ x. inr (p c x)) (one.before t c le was)) (λ now. inr (q c now)) (two.before t c (omega (arith, le, one.later)) left);
  }

  -- the same calls, of which less is said
  pub weaker : (old new : D) (P Q : List ℕ → Type 0) → LeavesOnly g old new P → ((c : List ℕ) → P c → Q c) → LeavesOnly g old new Q
  weaker old new P Q calls so = record {
    later = calls.later;
    each = λ c left. so c (calls.each c left);
    before = λ t c le left. ⊎_elim (λ was. inl was) (λ now. inr (so c now)) (calls.before t c le left);
  }
