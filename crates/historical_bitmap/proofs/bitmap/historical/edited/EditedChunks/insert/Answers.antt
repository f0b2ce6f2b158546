use Rattle.std.proofs.Common.{Some, ap, sym, arith}
use Rattle.chunk_map.specs.Entries.{ChunkEntries}
use Rattle.historical_bitmap.proofs.EditedChunks.Appended.{absent_other, absent_out, err_map, ok_map, put_keeps, puts_other}
use Rattle.historical_bitmap.proofs.bitmap.historical.edited.EditedChunks.insert.Goals as goal

pub add-requires : goal.add-requires
add-requires g c =
    let none = rw (sym c.self.view_is) at c.requires.absent in
    (omega (arith, c.self.invariant.width.fits), (omega (arith, c.self.invariant.width.fits), absent_other c.self.inside.first c.self.inside.appended.items c.self.inside.stored.entries c.args.index none))

pub invariant_of-self : goal.invariant_of-self
invariant_of-self g c =
    let none = rw (sym c.self.view_is) at c.requires.absent in
    let out = absent_out c.self.inside.first c.self.inside.appended.items c.self.inside.stored.entries c.args.index none in
    put_keeps g.row.N c.self.inside.first c.self.inside.appended.items c.self.inside.stored.entries c.add.new.self.entries c.args.index (Some c.args.chunk) c.add.result c.self.invariant out c.add.ensures.ok (err_map c.add.result (λ e. ap (λ (m : ChunkEntries). m.entries) e) c.add.ensures.err)

pub returns-clause-ok : goal.returns-clause-ok
returns-clause-ok g c =
    let none = rw (sym c.self.view_is) at c.requires.absent in
    let out = absent_out c.self.inside.first c.self.inside.appended.items c.self.inside.stored.entries c.args.index none in
    rw (sym c.self.view_is) (ok_map c.add.result (λ p. puts_other c.self.inside.first c.self.inside.appended.items c.self.inside.stored.entries c.add.new.self.entries c.args.index (Some c.args.chunk) out p) c.add.ensures.ok)
