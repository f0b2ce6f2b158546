use Rattle.std.proofs.Common.{◌≡◌, ℕ, ◌-◌, ◌*◌, ◌/◌, ◌<◌, List, None, length, ap, sym, ◌∙◌, arith}
use Rattle.std.specs.Prelude.{Option}
use Rattle.bitmap_core.specs.PrunedBits.{bit_at, last_bit}
use Rattle.bitmap_bytes.specs.Chunk.{chunk_bit}
use Rattle.historical_bitmap.proofs.Pending.Ends.{has_last, not_edited}
use Rattle.historical_bitmap.specs.Edits.Edit.{Pop}
use Rattle.historical_bitmap.specs.Pending.{edited_chunk, pending_bit, pending_bits}
use Rattle.historical_bitmap.proofs.Pending.BatchEdits.{edit_fits, edit_of, last_pending, popped_none, popped_some}
use Rattle.historical_bitmap.proofs.Pending.EditedAfter.{pop_leaves}
use Rattle.historical_bitmap.proofs.bitmap.historical.dirty.BitMap+N+Dirty+N.pop_other.Goals as goal
use Rattle.historical_bitmap.proofs.bitmap.historical.dirty.BitMap+N+Dirty+N.pop_other.Goals.{in-Some, in-None}

pub invariant_of-self : goal.invariant_of-self
invariant_of-self g c =
    let some : 0 < length (pending_bits g.row.N c.self.inside.current c.self.inside.state).bits = rw (sym c.self.view_is) at c.requires in
    (edit_fits g.row.N c.self.inside.current c.self.inside.state c.pop.new.self c.len-last.ensures.width.positive c.self.invariant.0 Pop some c.pop.ensures.pops, c.self.invariant.1)

pub returns-clause-edit : goal.returns-clause-edit
returns-clause-edit g c =
    let some : 0 < length (pending_bits g.row.N c.self.inside.current c.self.inside.state).bits = rw (sym c.self.view_is) at c.requires in
    rw (← c.self.view_is) (edit_of g.row.N c.self.inside.current c.self.inside.commits c.self.inside.last c.self.inside.state c.pop.new.self c.len-last.ensures.width.positive c.self.invariant.0 Pop some c.pop.ensures.pops)

pub returns-clause-value : goal.returns-clause-value
returns-clause-value g c =
    let some : 0 < length (pending_bits g.row.N c.self.inside.current c.self.inside.state).bits = rw (sym c.self.view_is) at c.requires in
    let last : last_bit (pending_bits g.row.N c.self.inside.current c.self.inside.state) ≡ pending_bit g.row.N c.self.inside.current c.self.inside.state (c.self.inside.state.len - 1) = last_pending g.row.N c.self.inside.current c.self.inside.state c.len-last.ensures.width.positive c.self.invariant.0 some in
    let chunk : Option (List ℕ) = edited_chunk c.self.inside.state ((c.self.inside.state.len - 1) / (8 * g.row.N)) in
    rw (← c.self.view_is, last) (elim c.match-pop.branch [
      | in-Some w ↦ w.result-is ∙ popped_some g.row.N c.self.inside.current (c.self.inside.state.len - 1) w.in-Some.value chunk w.in-Some.ensures.bit
      | in-None w ↦ w.result-is ∙ (w.get_bit.ensures ∙ (ap (λ (len : ℕ). bit_at g.row.N c.self.inside.current (len - 1)) c.len-last-2.ensures.value ∙ popped_none g.row.N c.self.inside.current (c.self.inside.state.len - 1) chunk w.in-None.ensures.bit))
    ])

pub get_bit-requires : goal.get_bit-requires
get_bit-requires g c =
    let some : 0 < length (pending_bits g.row.N c.self.inside.current c.self.inside.state).bits = rw (sym c.self.view_is) at c.requires in
    let none : edited_chunk c.self.inside.state ((c.self.inside.state.len - 1) / (8 * g.row.N)) ≡ None = not_edited (λ bytes. chunk_bit g.row.N bytes (c.self.inside.state.len - 1)) (edited_chunk c.self.inside.state ((c.self.inside.state.len - 1) / (8 * g.row.N))) c.in-None.ensures.bit in
    let h = has_last g.row.N c.self.inside.current c.self.inside.state c.len-last.ensures.width.positive c.self.invariant.0 some none in
    (omega arith, (omega (arith, h.0, c.len-last-2.ensures.value), omega (arith, h.1, c.len-last-2.ensures.value)))

pub returns-clause-keeps : goal.returns-clause-keeps
returns-clause-keeps g c =
    let some : 0 < length (pending_bits g.row.N c.self.inside.current c.self.inside.state).bits = rw (sym c.self.view_is) at c.requires in
    rw (← c.self.view_is) (pop_leaves g.row.N c.self.inside.current c.self.inside.commits c.self.inside.last c.self.inside.state c.pop.new.self c.len-last.ensures.width.positive (edit_fits g.row.N c.self.inside.current c.self.inside.state c.pop.new.self c.len-last.ensures.width.positive c.self.invariant.0 Pop some c.pop.ensures.pops) c.pop.ensures.pops)
