-- Pushes of many bytes, one more byte at a time.
use Rattle.std.proofs.Common.{◌≡◌, ℕ, ◌+◌, ◌<◌, suc, List, [], ◌∷◌, ◌++◌, length, take, get_or, refl, sym, subst, arith}
use Rattle.std.proofs.Math.Seq.{take-suc}
use Rattle.bitmap_session.specs.declared.command.Command.TheVariants.{PushByte}
use Rattle.bitmap_session.specs.Machine.{Machine}
use Rattle.bitmap_c.specs.Calls.{Pushed, Serves}
use Rattle.bitmap_c.specs.Reports.{ReportsEdit}

-- the pushes of some bytes and an accepted push of one more are the pushes of them all
pub pushed-append : (N : ℕ) (old mid new : Machine) (bytes : List ℕ) (byte : ℕ)
    → Pushed N old bytes mid
    → Serves N mid (PushByte byte) (ReportsEdit 0) new
    → Pushed N old (bytes ++ byte ∷ []) new
pushed-append N old mid new [] byte same step = (new, rw (← same) step, refl)
pushed-append N old mid new (first ∷ bytes) byte (next, served, rest) step =
    (next, served, pushed-append N next mid new bytes byte rest step)

-- the same of the first bytes of a list
pub pushed-take : (N : ℕ) (old mid new : Machine) (bytes : List ℕ) (i : ℕ)
    → i < length bytes
    → Pushed N old (take i bytes) mid
    → Serves N mid (PushByte (get_or bytes i 0)) (ReportsEdit 0) new
    → Pushed N old (take (i + 1) bytes) new
pushed-take N old mid new bytes i below so_far step =
    let next : suc i ≡ i + 1 = omega arith in
    let appended = pushed-append N old mid new (take i bytes) (get_or bytes i 0) so_far step in
    subst (λ (k : ℕ). Pushed N old (take k bytes) new) next
    (subst (λ (xs : List ℕ). Pushed N old xs new) (sym (take-suc bytes i 0 below)) appended)
