use Rattle.std.proofs.Common.{◌≡◌, sym, ◌∙◌}
use Rattle.bitmap_core.specs.PrunedBits.{bit_len}
use Rattle.historical_bitmap.specs.Pending.{pending_bits}
use Rattle.historical_bitmap.proofs.Pending.Edits.{pending_len}
use Rattle.historical_bitmap.proofs.bitmap.historical.dirty.BitMap+N+Dirty+N.len.Goals as goal

pub returns-clause-value : goal.returns-clause-value
returns-clause-value g c = rw (← c.self.view_is) (c.len-2.ensures.value ∙ sym (pending_len g.row.N c.self.inside.current c.self.inside.state c.len.ensures.width.positive c.self.invariant.0))

pub returns-clause-bound : goal.returns-clause-bound
returns-clause-bound g c =
    let len : bit_len g.row.N (pending_bits g.row.N c.self.inside.current c.self.inside.state) ≡ c.self.inside.state.len = pending_len g.row.N c.self.inside.current c.self.inside.state c.len.ensures.width.positive c.self.invariant.0 in
    rw (← c.self.view_is, len) c.len-2.ensures.bound
