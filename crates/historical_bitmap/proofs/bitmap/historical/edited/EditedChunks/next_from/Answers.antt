use Rattle.std.proofs.Common.{◌≡◌, ◌≤◌, ℕ, sym, subst, arith}
use Rattle.std.proofs.Math.Nat.{le-max_left, le-max_right, max-eq_left, max-eq_right}
use Rattle.std.proofs.lemmas.Bool.{cases_lt}
use mathlib.Core.Logic.{inl, inr}
use Rattle.std.specs.Prelude.{max}
use Rattle.std.specs.Map.{keys_of}
use Rattle.chunk_map.specs.Entries.{IsNextMember}
use Rattle.historical_bitmap.proofs.EditedChunks.Appended.{next_before, next_other, next_appended}
use Rattle.historical_bitmap.proofs.bitmap.historical.edited.EditedChunks.next_from.Goals as goal

least : (low from first : ℕ) → first ≡ max low from → (q : ℕ) → low ≤ q → from ≤ q → first ≤ q
least low from first e q l m = elim (cases_lt low from) [
  | inl h ↦ omega (arith, e, m, max-eq_right {n = low} {m = from} (omega (arith, h)))
  | inr h ↦ omega (arith, e, l, max-eq_left {n = low} {m = from} h)
]

low_is : (low from first : ℕ) → first ≡ max low from → low ≤ first
low_is low from first e = omega (arith, e, le-max_left low from)

from_is : (low from first : ℕ) → first ≡ max low from → from ≤ first
from_is low from first e = omega (arith, e, le-max_right low from)

pub returns-then-first-self : goal.returns-then-first-self
returns-then-first-self g c =
    let from_low = from_is c.args.from c.self.inside.first c.max-first.result c.max-first.ensures in
    rw (sym c.self.view_is) (next_other c.self.inside.first c.self.inside.appended.items c.self.inside.stored.entries c.args.from c.max-first.result c.next_from-other.result (least c.args.from c.self.inside.first c.max-first.result c.max-first.ensures) (omega (arith, from_low, c.if-first-self.true, c.len.ensures, c.self.inside.appended.ok.0)) c.next_from-other.ensures)

pub returns-in-Some : goal.returns-in-Some
returns-in-Some g c =
    let next = subst (λ r. IsNextMember (keys_of c.self.inside.stored.entries) c.args.from r) c.in-Some.is c.next_from-other.ensures in
    rw (sym c.self.view_is) (next_before c.self.inside.first c.self.inside.appended.items c.self.inside.stored.entries c.args.from c.max-first.result c.in-Some.index (least c.args.from c.self.inside.first c.max-first.result c.max-first.ensures) c.if-index-first.true next)

pub returns-in_default : goal.returns-in_default
returns-in_default g c =
    let next = subst (λ r. IsNextMember (keys_of c.self.inside.stored.entries) c.args.from r) c.in-Some.is c.next_from-other.ensures in
    let from_low = from_is c.args.from c.self.inside.first c.max-first.result c.max-first.ensures in
    let low = low_is c.args.from c.self.inside.first c.max-first.result c.max-first.ensures in
    rw (sym c.self.view_is) (next_appended c.self.inside.first c.self.inside.appended.items c.self.inside.stored.entries c.args.from c.max-first.result (least c.args.from c.self.inside.first c.max-first.result c.max-first.ensures) low (from_low, omega (arith, from_low, c.if-first-self.false, c.len.ensures, c.self.inside.appended.ok.0)) (λ j f s. next.2 j f (omega (arith, s, c.if-index-first.false))))

pub returns-in_default-2 : goal.returns-in_default-2
returns-in_default-2 g c =
    let next = subst (λ r. IsNextMember (keys_of c.self.inside.stored.entries) c.args.from r) c.in_default.is c.next_from-other.ensures in
    let from_low = from_is c.args.from c.self.inside.first c.max-first.result c.max-first.ensures in
    let low = low_is c.args.from c.self.inside.first c.max-first.result c.max-first.ensures in
    rw (sym c.self.view_is) (next_appended c.self.inside.first c.self.inside.appended.items c.self.inside.stored.entries c.args.from c.max-first.result (least c.args.from c.self.inside.first c.max-first.result c.max-first.ensures) low (from_low, omega (arith, from_low, c.if-first-self.false, c.len.ensures, c.self.inside.appended.ok.0)) (λ j f s. next j f))
