use Rattle.std.proofs.Common.{◌*◌, ◌≤◌, arith, sym}
use Rattle.bitmap_core.specs.PrunedBits.{bit_len}
use Rattle.historical_bitmap.specs.Pending.{pending_bits}
use Rattle.historical_bitmap.proofs.Pending.Edits.{pending_len}
use Rattle.historical_bitmap.proofs.Pending.Truncates.{truncate_fits, truncate_is, truncate_leaves, truncate_run}
use Rattle.historical_bitmap.proofs.bitmap.historical.lengths.BitMap+N+Dirty+N.truncate.Goals as goal

pub invariant_of-self : goal.invariant_of-self
invariant_of-self g c =
    let from : 8 * g.row.N * c.self.inside.state.pruned ≤ c.args.n = rw (sym c.self.view_is) at c.requires.from in
    let to : c.args.n ≤ bit_len g.row.N (pending_bits g.row.N c.self.inside.current c.self.inside.state) = rw (sym c.self.view_is) at c.requires.to in
    let pos = c.len.ensures.width.positive in
    let fits = c.self.invariant.0 in
    (truncate_fits g.row.N c.self.inside.current c.self.inside.state c.truncate.new.self c.args.n pos fits from (omega (arith, to, pending_len g.row.N c.self.inside.current c.self.inside.state pos fits)) c.truncate.ensures, c.self.invariant.1)

pub returns-clause-pending : goal.returns-clause-pending
returns-clause-pending g c =
    let from : 8 * g.row.N * c.self.inside.state.pruned ≤ c.args.n = rw (sym c.self.view_is) at c.requires.from in
    let to : c.args.n ≤ bit_len g.row.N (pending_bits g.row.N c.self.inside.current c.self.inside.state) = rw (sym c.self.view_is) at c.requires.to in
    let pos = c.len.ensures.width.positive in
    let fits = c.self.invariant.0 in
    rw (← c.self.view_is) (truncate_is g.row.N c.self.inside.current c.self.inside.state c.truncate.new.self c.args.n pos fits from (omega (arith, to, pending_len g.row.N c.self.inside.current c.self.inside.state pos fits)) c.truncate.ensures)

pub returns-clause-run : goal.returns-clause-run
returns-clause-run g c =
    let from : 8 * g.row.N * c.self.inside.state.pruned ≤ c.args.n = rw (sym c.self.view_is) at c.requires.from in
    let to : c.args.n ≤ bit_len g.row.N (pending_bits g.row.N c.self.inside.current c.self.inside.state) = rw (sym c.self.view_is) at c.requires.to in
    let pos = c.len.ensures.width.positive in
    let fits = c.self.invariant.0 in
    rw (← c.self.view_is) (truncate_run g.row.N c.self.inside.current c.self.inside.commits c.self.inside.last c.self.inside.state c.truncate.new.self c.args.n pos fits from (omega (arith, to, pending_len g.row.N c.self.inside.current c.self.inside.state pos fits)) c.truncate.ensures)

pub returns-clause-keeps : goal.returns-clause-keeps
returns-clause-keeps g c =
    let from : 8 * g.row.N * c.self.inside.state.pruned ≤ c.args.n = rw (sym c.self.view_is) at c.requires.from in
    let to : c.args.n ≤ bit_len g.row.N (pending_bits g.row.N c.self.inside.current c.self.inside.state) = rw (sym c.self.view_is) at c.requires.to in
    let pos = c.len.ensures.width.positive in
    let fits = c.self.invariant.0 in
    rw (← c.self.view_is) (truncate_leaves g.row.N c.self.inside.current c.self.inside.commits c.self.inside.last c.self.inside.state c.truncate.new.self c.args.n pos fits from (omega (arith, to, pending_len g.row.N c.self.inside.current c.self.inside.state pos fits)) c.truncate.ensures)
