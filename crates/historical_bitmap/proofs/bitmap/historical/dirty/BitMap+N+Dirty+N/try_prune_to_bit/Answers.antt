use Rattle.std.proofs.Common.{◌*◌, ◌/◌, sym}
use Rattle.std.specs.Prelude.{OnOk}
use Rattle.historical_bitmap.specs.Edits.{IsAccepted}
use Rattle.historical_bitmap.specs.Edits.Edit.{Prune}
use Rattle.historical_bitmap.specs.Pending.{pending_bits, Prunes}
use Rattle.historical_bitmap.proofs.Pending.BatchEdits.{tried_edit, tried_fits}
use Rattle.historical_bitmap.proofs.Pending.EditedAfter.{tried_prune_leaves}
use Rattle.historical_bitmap.proofs.bitmap.historical.dirty.BitMap+N+Dirty+N.try_prune_to_bit.Goals as goal

pub invariant_of-self : goal.invariant_of-self
invariant_of-self g c =
    let accepted : IsAccepted g.row.N (pending_bits g.row.N c.self.inside.current c.self.inside.state) (Prune c.args.bit) = rw (sym c.self.view_is) at c.requires in
    let pruned : OnOk c.prune.result (Prunes g.row.N c.self.inside.current c.self.inside.state (c.args.bit / (8 * g.row.N)) c.prune.new.self) = rw c.chunk_index.ensures at c.prune.ensures.ok in
    (tried_fits g.row.N c.self.inside.current c.self.inside.state c.prune.new.self c.len.ensures.width.positive c.self.invariant.0 c.prune.result (Prune c.args.bit) accepted pruned c.prune.ensures.err, c.self.invariant.1)

pub returns-clause-ok : goal.returns-clause-ok
returns-clause-ok g c =
    let accepted : IsAccepted g.row.N (pending_bits g.row.N c.self.inside.current c.self.inside.state) (Prune c.args.bit) = rw (sym c.self.view_is) at c.requires in
    let pruned : OnOk c.prune.result (Prunes g.row.N c.self.inside.current c.self.inside.state (c.args.bit / (8 * g.row.N)) c.prune.new.self) = rw c.chunk_index.ensures at c.prune.ensures.ok in
    rw (← c.self.view_is) (tried_edit g.row.N c.self.inside.current c.self.inside.commits c.self.inside.last c.self.inside.state c.prune.new.self c.len.ensures.width.positive c.self.invariant.0 c.prune.result (Prune c.args.bit) accepted pruned)

pub returns-clause-keeps : goal.returns-clause-keeps
returns-clause-keeps g c =
    let pruned : OnOk c.prune.result (Prunes g.row.N c.self.inside.current c.self.inside.state (c.args.bit / (8 * g.row.N)) c.prune.new.self) = rw c.chunk_index.ensures at c.prune.ensures.ok in
    rw (← c.self.view_is) (tried_prune_leaves g.row.N c.self.inside.current c.self.inside.commits c.self.inside.last c.self.inside.state c.prune.new.self c.len.ensures.width.positive c.prune.result (c.args.bit / (8 * g.row.N)) pruned)
