use Rattle.std.proofs.Common.{◌≡◌, ℕ, ◌+◌, ◌*◌, ◌/◌, ◌%◌, ◌≤◌, None, sym, refl, arith}
use Rattle.std.specs.Prelude.{IfSome, nat_eq}
use Rattle.std.specs.Map.{lookup}
use Rattle.historical_bitmap.specs.CachedWord.{with_cached}
use Rattle.historical_bitmap.specs.Pending.{IsClearFrom}
use Rattle.historical_bitmap.proofs.Pending.Ends.{index_from}
use Rattle.historical_bitmap.proofs.Pending.Writes.{writes_to}
use Rattle.historical_bitmap.proofs.bitmap.historical.pending.Dirty.push.Goals as goal

pub returns-clause-ok : goal.returns-clause-ok
returns-clause-ok g c =
    let set = c.in_ok-push_bit.ensures.ok in
    rw (sym c.self.view_is) (writes_to g.row.N c.args.current.now _ _ c.self.inside.len c.args.value (c.self.inside.len + 1) set.0 refl refl refl set.1)

pub push_bit-requires : goal.push_bit-requires
push_bit-requires g c =
    let width = c.self.invariant.width in
    let edited = with_cached g.row.N c.self.inside.edited c.self.inside.cache in
    let index : ℕ = c.self.inside.len / (8 * g.row.N) in
    let low : 8 * g.row.N * c.args.current.now.pruned ≤ c.self.inside.len = rw (sym c.self.view_is) at c.requires.low in
    let zero : IfSome (lookup (nat_eq index) edited) (IsClearFrom g.row.N index c.self.inside.len) = rw (sym c.self.view_is) at c.requires.zero in
    let first : c.self.inside.len % (8 * g.row.N) ≡ 0 → lookup (nat_eq index) edited ≡ None = rw (sym c.self.view_is) at c.requires.first in
    (omega (arith, width.fits), (omega (arith, width.fits), (c.self.invariant, (width, (index_from g.row.N c.args.current.now.pruned c.self.inside.len width.positive low, (zero, first))))))
