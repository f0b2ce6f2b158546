use Rattle.std.proofs.Common.{◌≡◌, ◌*◌, ◌/◌, None, sym, ◌∙◌, arith}
use Rattle.bitmap_bytes.specs.Chunk.{chunk_bit}
use Rattle.historical_bitmap.specs.Pending.{edited_chunk}
use Rattle.historical_bitmap.proofs.Pending.Ends.{not_edited}
use Rattle.historical_bitmap.proofs.Pending.Writes.{read_some, read_current, has_current}
use Rattle.historical_bitmap.proofs.bitmap.historical.pending.Dirty.get_bit.Goals as goal

pub get_bit-requires-in-None : goal.get_bit-requires-in-None
get_bit-requires-in-None g c =
    let none : edited_chunk c.args.self.now (c.args.bit / (8 * g.row.N)) ≡ None = rw (sym c.self.view_is) (not_edited (λ bytes. chunk_bit g.row.N bytes c.args.bit) _ c.in-None.ensures) in
    (omega arith, has_current g.row.N c.args.current.now c.args.self.now c.self.invariant.width.positive c.requires.edits_fit c.args.bit c.requires.retained none)

pub returns-in-Some : goal.returns-in-Some
returns-in-Some g c = read_some g.row.N c.args.current.now c.args.self.now c.self.invariant.width.positive c.requires.edits_fit c.args.bit c.requires.retained c.in-Some.value (rw (sym c.self.view_is) c.in-Some.ensures)

pub returns-in-None : goal.returns-in-None
returns-in-None g c =
    let none : edited_chunk c.args.self.now (c.args.bit / (8 * g.row.N)) ≡ None = rw (sym c.self.view_is) (not_edited (λ bytes. chunk_bit g.row.N bytes c.args.bit) _ c.in-None.ensures) in
    c.get_bit-in-None.ensures ∙ read_current g.row.N c.args.current.now c.args.self.now c.self.invariant.width.positive c.requires.edits_fit c.args.bit c.requires.retained none
