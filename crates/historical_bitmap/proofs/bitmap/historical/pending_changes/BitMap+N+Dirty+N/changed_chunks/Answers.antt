use Rattle.std.proofs.Common.{arith, refl}
use Rattle.historical_bitmap.specs.Pending.{pending_bits}
use Rattle.historical_bitmap.proofs.Changes.Next.{changed_fits}
use Rattle.historical_bitmap.proofs.Changes.Pending.{comparing_pending, pending_changed}
use Rattle.historical_bitmap.proofs.bitmap.historical.pending_changes.BitMap+N+Dirty+N.changed_chunks.Goals as goal

pub invariant_of-result : goal.invariant_of-result
invariant_of-result g c =
    comparing_pending g.row.N c.self.inside.current c.self.inside.state c.len.ensures.width.positive c.self.invariant.0 c.pruned_chunks-next.result c.max-end.result c.pruned_chunks-next.ensures
    (rw (c.max-end.ensures, c.chunk_count.ensures, c.chunk_count-2.ensures, c.len.ensures.value, c.len-2.ensures.value) refl)
    c.len.ensures.width c.len.ensures.bound c.len-2.ensures.bound

pub returns-clause-value : goal.returns-clause-value
returns-clause-value g c =
    rw (← c.self.view_is) (pending_changed g.row.N c.self.inside.current c.self.inside.state c.len.ensures.width.positive c.self.invariant.0 c.pruned_chunks-next.result c.max-end.result c.pruned_chunks-next.ensures
    (rw (c.max-end.ensures, c.chunk_count.ensures, c.chunk_count-2.ensures, c.len.ensures.value, c.len-2.ensures.value) refl))

pub returns-clause-bound : goal.returns-clause-bound
returns-clause-bound g c = changed_fits g.row.N c.self.inside.current (pending_bits g.row.N c.self.inside.current c.self.inside.state) c.pruned_chunks-next.result c.max-end.result (omega (arith, c.max-end.type_inv))
