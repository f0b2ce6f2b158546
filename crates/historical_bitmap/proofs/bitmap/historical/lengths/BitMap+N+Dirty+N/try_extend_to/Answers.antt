use Rattle.std.proofs.Common.{◌-◌, ◌<◌, false, replicate, arith, sym}
use Rattle.bitmap_core.specs.PrunedBits.{bit_len}
use Rattle.historical_bitmap.specs.Pending.{pending_bits}
use Rattle.historical_bitmap.proofs.EditedChunks.Appended.{ok_map}
use Rattle.historical_bitmap.proofs.Pending.BatchEdits.{tried_run_fits}
use Rattle.historical_bitmap.proofs.Pending.Edits.{pending_len}
use Rattle.historical_bitmap.proofs.Pending.Lengthened.{run_extends, zeros_held, zeros_leave, zeros_run}
use Rattle.historical_bitmap.proofs.bitmap.historical.lengths.BitMap+N+Dirty+N.try_extend_to.Goals as goal

pub extend_to-requires : goal.extend_to-requires
extend_to-requires g c =
    let above : bit_len g.row.N (pending_bits g.row.N c.self.inside.current c.self.inside.state) < c.args.n = rw (sym c.self.view_is) at (rw c.len.ensures.value at c.if-n-len.false) in
    (omega (arith, c.len.ensures.width.fits), (omega (arith, c.len.ensures.width.fits), (c.self.invariant.0, omega (arith, above, pending_len g.row.N c.self.inside.current c.self.inside.state c.len.ensures.width.positive c.self.invariant.0))))

pub invariant_of-self : goal.invariant_of-self
invariant_of-self g c = (tried_run_fits g.row.N c.self.inside.current c.self.inside.state c.extend_to.new.self c.len.ensures.width.positive c.self.invariant.0 c.extend_to.result (replicate (c.args.n - c.self.inside.state.len) false) c.extend_to.ensures.ok c.extend_to.ensures.err, c.self.invariant.1)

pub returns-clause-pending : goal.returns-clause-pending
returns-clause-pending g c =
    let above : bit_len g.row.N (pending_bits g.row.N c.self.inside.current c.self.inside.state) < c.args.n = rw (sym c.self.view_is) at (rw c.len.ensures.value at c.if-n-len.false) in
    rw (← c.self.view_is) (ok_map c.extend_to.result (run_extends g.row.N _ _ c.args.n) (zeros_run g.row.N c.self.inside.current c.self.inside.commits c.self.inside.last c.self.inside.state c.extend_to.new.self c.len.ensures.width.positive c.self.invariant.0 c.args.n above c.extend_to.result c.extend_to.ensures.ok))

pub returns-clause-ok : goal.returns-clause-ok
returns-clause-ok g c =
    let above : bit_len g.row.N (pending_bits g.row.N c.self.inside.current c.self.inside.state) < c.args.n = rw (sym c.self.view_is) at (rw c.len.ensures.value at c.if-n-len.false) in
    rw (← c.self.view_is) (zeros_run g.row.N c.self.inside.current c.self.inside.commits c.self.inside.last c.self.inside.state c.extend_to.new.self c.len.ensures.width.positive c.self.invariant.0 c.args.n above c.extend_to.result c.extend_to.ensures.ok)

pub returns-clause-keeps : goal.returns-clause-keeps
returns-clause-keeps g c =
    let above : bit_len g.row.N (pending_bits g.row.N c.self.inside.current c.self.inside.state) < c.args.n = rw (sym c.self.view_is) at (rw c.len.ensures.value at c.if-n-len.false) in
    rw (← c.self.view_is) (zeros_leave g.row.N c.self.inside.current c.self.inside.commits c.self.inside.last c.self.inside.state c.extend_to.new.self c.len.ensures.width.positive c.self.invariant.0 c.args.n above c.extend_to.result c.extend_to.ensures.ok)

pub returns-clause-edited : goal.returns-clause-edited
returns-clause-edited g c =
    let above : bit_len g.row.N (pending_bits g.row.N c.self.inside.current c.self.inside.state) < c.args.n = rw (sym c.self.view_is) at (rw c.len.ensures.value at c.if-n-len.false) in
    rw (← c.self.view_is) (zeros_held g.row.N c.self.inside.current c.self.inside.commits c.self.inside.last c.self.inside.state c.extend_to.new.self c.len.ensures.width.positive c.self.invariant.0 c.args.n above c.extend_to.result c.extend_to.ensures.edited)
