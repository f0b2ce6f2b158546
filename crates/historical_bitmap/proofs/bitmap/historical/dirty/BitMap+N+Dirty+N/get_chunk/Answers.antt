use Rattle.std.proofs.Common.{◌≡◌, ◌*◌, ◌/◌, ◌≤◌, sym, ap, ◌∙◌, arith}
use Rattle.std.proofs.lemmas.Nat.{le-div}
use Rattle.bitmap_core.specs.PrunedBits.{IsRetained}
use Rattle.historical_bitmap.specs.Pending.{pending_bits, pending_chunk}
use Rattle.historical_bitmap.proofs.Pending.Chunks.{pending_chunk_is}
use Rattle.historical_bitmap.proofs.bitmap.historical.dirty.BitMap+N+Dirty+N.get_chunk.Goals as goal

pub returns : goal.returns
returns g c =
    let retained : IsRetained g.row.N (pending_bits g.row.N c.self.inside.current c.self.inside.state) c.args.bit = rw (sym c.self.view_is) at c.requires in
    let index : c.chunk_index.result ≡ c.args.bit / (8 * g.row.N) = c.chunk_index.ensures in
    let low : c.self.inside.state.pruned ≤ c.args.bit / (8 * g.row.N) = le-div c.self.inside.state.pruned c.args.bit (8 * g.row.N) (omega (arith, c.len.ensures.width.positive)) (omega (arith, retained.0)) in
    let read : c.chunk.result ≡ pending_chunk g.row.N c.self.inside.current c.self.inside.state (c.args.bit / (8 * g.row.N)) = c.chunk.ensures.value ∙ ap (pending_chunk g.row.N c.self.inside.current c.self.inside.state) index in
    rw (← c.self.view_is) (read ∙ pending_chunk_is g.row.N c.self.inside.current c.self.inside.state (c.args.bit / (8 * g.row.N)) c.len.ensures.width.positive c.self.invariant.0 low (rw read at c.chunk.ensures.known))
