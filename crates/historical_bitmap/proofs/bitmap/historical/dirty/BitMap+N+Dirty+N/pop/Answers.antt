use Rattle.std.proofs.Common.{◌≡◌, ℕ, ◌-◌, ◌*◌, ◌/◌, ◌<◌, List, length, sym}
use Rattle.std.specs.Prelude.{Option}
use Rattle.bitmap_core.specs.PrunedBits.{last_bit}
use Rattle.historical_bitmap.specs.Edits.Edit.{Pop}
use Rattle.historical_bitmap.specs.Pending.{edited_chunk, pending_bit, pending_bits}
use Rattle.historical_bitmap.proofs.Pending.BatchEdits.{edit_fits, edit_of, last_pending, popped_some}
use Rattle.historical_bitmap.proofs.Pending.EditedAfter.{pop_leaves}
use Rattle.historical_bitmap.proofs.bitmap.historical.dirty.BitMap+N+Dirty+N.pop.Goals as goal

pub invariant_of-self : goal.invariant_of-self
invariant_of-self g c =
    let some : 0 < length (pending_bits g.row.N c.self.inside.current c.self.inside.state).bits = rw (sym c.self.view_is) at c.requires in
    (edit_fits g.row.N c.self.inside.current c.self.inside.state c.pop_cached.new.self c.len.ensures.width.positive c.self.invariant.0 Pop some c.in-Some.ensures.pops, c.self.invariant.1)

pub returns-in-Some-clause-value : goal.returns-in-Some-clause-value
returns-in-Some-clause-value g c =
    let some : 0 < length (pending_bits g.row.N c.self.inside.current c.self.inside.state).bits = rw (sym c.self.view_is) at c.requires in
    let last : last_bit (pending_bits g.row.N c.self.inside.current c.self.inside.state) ≡ pending_bit g.row.N c.self.inside.current c.self.inside.state (c.self.inside.state.len - 1) = last_pending g.row.N c.self.inside.current c.self.inside.state c.len.ensures.width.positive c.self.invariant.0 some in
    let chunk : Option (List ℕ) = edited_chunk c.self.inside.state ((c.self.inside.state.len - 1) / (8 * g.row.N)) in
    rw (← c.self.view_is, last) (popped_some g.row.N c.self.inside.current (c.self.inside.state.len - 1) c.in-Some.value chunk c.in-Some.ensures.bit)

pub returns-in-Some-clause-edit : goal.returns-in-Some-clause-edit
returns-in-Some-clause-edit g c =
    let some : 0 < length (pending_bits g.row.N c.self.inside.current c.self.inside.state).bits = rw (sym c.self.view_is) at c.requires in
    rw (← c.self.view_is) (edit_of g.row.N c.self.inside.current c.self.inside.commits c.self.inside.last c.self.inside.state c.pop_cached.new.self c.len.ensures.width.positive c.self.invariant.0 Pop some c.in-Some.ensures.pops)

pub returns-in-Some-clause-keeps : goal.returns-in-Some-clause-keeps
returns-in-Some-clause-keeps g c =
    let some : 0 < length (pending_bits g.row.N c.self.inside.current c.self.inside.state).bits = rw (sym c.self.view_is) at c.requires in
    rw (← c.self.view_is) (pop_leaves g.row.N c.self.inside.current c.self.inside.commits c.self.inside.last c.self.inside.state c.pop_cached.new.self c.len.ensures.width.positive (edit_fits g.row.N c.self.inside.current c.self.inside.state c.pop_cached.new.self c.len.ensures.width.positive c.self.invariant.0 Pop some c.in-Some.ensures.pops) c.in-Some.ensures.pops)
