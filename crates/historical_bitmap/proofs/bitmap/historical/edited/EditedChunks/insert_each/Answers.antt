use Rattle.std.proofs.Common.{◌≡◌, ℕ, true, None, Some, sym, arith}
use Rattle.std.specs.Prelude.{nat_eq}
use Rattle.std.specs.Map.{lookup}
use Rattle.std.specs.Set.{is_member}
use Rattle.bitmap_core.specs.PrunedBits.{chunk, truncated}
use Rattle.historical_bitmap.specs.Appended.{with_appended}
use Rattle.historical_bitmap.proofs.EditedChunks.Appended.{absent_other, each_keeps, ok_map, puts_each_other}
use Rattle.historical_bitmap.proofs.bitmap.historical.edited.EditedChunks.insert_each.Goals as goal

pub insert_each-requires : goal.insert_each-requires
insert_each-requires g c =
    let absent : (q : ℕ) → is_member nat_eq c.args.indices.now q ≡ true → lookup (nat_eq q) (with_appended c.self.inside.first c.self.inside.appended.items c.self.inside.stored.entries) ≡ None = rw (sym c.self.view_is) at c.requires.absent in
    (omega (arith, c.self.invariant.width.fits), (omega arith, (c.requires.from, (c.requires.fits, λ q h. absent_other c.self.inside.first c.self.inside.appended.items c.self.inside.stored.entries q (absent q h)))))

pub invariant_of-self : goal.invariant_of-self
invariant_of-self g c =
    let absent : (q : ℕ) → is_member nat_eq c.args.indices.now q ≡ true → lookup (nat_eq q) (with_appended c.self.inside.first c.self.inside.appended.items c.self.inside.stored.entries) ≡ None = rw (sym c.self.view_is) at c.requires.absent in
    each_keeps c.self.inside.first c.self.inside.appended.items c.self.inside.stored.entries c.insert_each.new.stored.entries c.args.indices.now (λ q. Some (chunk g.row.N (truncated g.row.N c.args.current.now c.args.len) q)) absent c.insert_each.result g.row.N c.self.invariant c.insert_each.ensures.ok c.insert_each.ensures.err

pub returns-clause-ok : goal.returns-clause-ok
returns-clause-ok g c =
    let absent : (q : ℕ) → is_member nat_eq c.args.indices.now q ≡ true → lookup (nat_eq q) (with_appended c.self.inside.first c.self.inside.appended.items c.self.inside.stored.entries) ≡ None = rw (sym c.self.view_is) at c.requires.absent in
    rw (sym c.self.view_is) (ok_map c.insert_each.result (λ put. puts_each_other c.self.inside.first c.self.inside.appended.items c.self.inside.stored.entries c.insert_each.new.stored.entries c.args.indices.now (λ q. Some (chunk g.row.N (truncated g.row.N c.args.current.now c.args.len) q)) absent put) c.insert_each.ensures.ok)
