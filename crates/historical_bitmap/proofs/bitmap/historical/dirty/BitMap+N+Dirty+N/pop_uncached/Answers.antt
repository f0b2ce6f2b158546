use Rattle.std.proofs.Common.{◌≡◌, ℕ, ◌-◌, ◌*◌, ◌/◌, ◌<◌, List, None, length, refl, ap, sym, ◌∙◌, arith}
use Rattle.std.specs.Prelude.{Option}
use Rattle.bitmap_core.specs.PrunedBits.{bit_at, last_bit}
use Rattle.bitmap_bytes.specs.Chunk.{chunk_bit}
use Rattle.std.specs.Option.{option_map}
use Rattle.historical_bitmap.specs.Edits.Edit.{Pop}
use Rattle.historical_bitmap.specs.Pending.{edited_chunk, pending_bit, pending_bits}
use Rattle.historical_bitmap.proofs.Pending.BatchEdits.{edit_fits, edit_of, last_pending, popped_none}
use Rattle.historical_bitmap.proofs.Pending.Ends.{has_last}
use Rattle.historical_bitmap.proofs.Pending.EditedAfter.{pop_leaves}
use Rattle.historical_bitmap.proofs.bitmap.historical.dirty.BitMap+N+Dirty+N.pop_uncached.Goals as goal

pub invariant_of-self : goal.invariant_of-self
invariant_of-self g c =
    let some : 0 < length (pending_bits g.row.N c.self.inside.current c.self.inside.state).bits = rw (sym c.self.view_is) at c.requires in
    (edit_fits g.row.N c.self.inside.current c.self.inside.state c.pop_unedited.new.self c.len-last.ensures.width.positive c.self.invariant.0 Pop some (c.if-pop_unedited.ensures.pops refl), c.self.invariant.1)

pub returns-then-pop_unedited-clause-edit : goal.returns-then-pop_unedited-clause-edit
returns-then-pop_unedited-clause-edit g c =
    let some : 0 < length (pending_bits g.row.N c.self.inside.current c.self.inside.state).bits = rw (sym c.self.view_is) at c.requires in
    rw (← c.self.view_is) (edit_of g.row.N c.self.inside.current c.self.inside.commits c.self.inside.last c.self.inside.state c.pop_unedited.new.self c.len-last.ensures.width.positive c.self.invariant.0 Pop some (c.if-pop_unedited.ensures.pops refl))

pub returns-then-pop_unedited-clause-value : goal.returns-then-pop_unedited-clause-value
returns-then-pop_unedited-clause-value g c =
    let some : 0 < length (pending_bits g.row.N c.self.inside.current c.self.inside.state).bits = rw (sym c.self.view_is) at c.requires in
    let last : last_bit (pending_bits g.row.N c.self.inside.current c.self.inside.state) ≡ pending_bit g.row.N c.self.inside.current c.self.inside.state (c.self.inside.state.len - 1) = last_pending g.row.N c.self.inside.current c.self.inside.state c.len-last.ensures.width.positive c.self.invariant.0 some in
    let chunk : Option (List ℕ) = edited_chunk c.self.inside.state ((c.self.inside.state.len - 1) / (8 * g.row.N)) in
    let none : None ≡ option_map (λ bytes. chunk_bit g.row.N bytes (c.self.inside.state.len - 1)) chunk = sym (ap (option_map (λ bytes. chunk_bit g.row.N bytes (c.self.inside.state.len - 1))) (c.if-pop_unedited.ensures.unedited refl)) in
    rw (← c.self.view_is, last) (c.get_bit.ensures ∙ (ap (λ (len : ℕ). bit_at g.row.N c.self.inside.current (len - 1)) c.len-last.ensures.value ∙ popped_none g.row.N c.self.inside.current (c.self.inside.state.len - 1) chunk none))

pub get_bit-requires : goal.get_bit-requires
get_bit-requires g c =
    let some : 0 < length (pending_bits g.row.N c.self.inside.current c.self.inside.state).bits = rw (sym c.self.view_is) at c.requires in
    let h = has_last g.row.N c.self.inside.current c.self.inside.state c.len-last.ensures.width.positive c.self.invariant.0 some (c.if-pop_unedited.ensures.unedited refl) in
    (omega arith, (omega (arith, h.0, c.len-last.ensures.value), omega (arith, h.1, c.len-last.ensures.value)))

pub returns-then-pop_unedited-clause-keeps : goal.returns-then-pop_unedited-clause-keeps
returns-then-pop_unedited-clause-keeps g c =
    let some : 0 < length (pending_bits g.row.N c.self.inside.current c.self.inside.state).bits = rw (sym c.self.view_is) at c.requires in
    rw (← c.self.view_is) (pop_leaves g.row.N c.self.inside.current c.self.inside.commits c.self.inside.last c.self.inside.state c.pop_unedited.new.self c.len-last.ensures.width.positive (edit_fits g.row.N c.self.inside.current c.self.inside.state c.pop_unedited.new.self c.len-last.ensures.width.positive c.self.invariant.0 Pop some (c.if-pop_unedited.ensures.pops refl)) (c.if-pop_unedited.ensures.pops refl))
