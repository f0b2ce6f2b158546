use Rattle.std.proofs.Common.{◌+◌, ◌^◌, ◌<◌, length, refl, sym, ◌∙◌, arith}
use Rattle.std.proofs.lemmas.Bool.{eqb-false}
use Rattle.bitmap_core.specs.PrunedBits.{bit_len}
use Rattle.historical_bitmap.specs.Pending.{pending_bits}
use Rattle.historical_bitmap.proofs.EditedChunks.Appended.{ok_map}
use Rattle.historical_bitmap.proofs.Pending.BatchEdits.{tried_run, tried_run_fits}
use Rattle.historical_bitmap.proofs.Pending.Edits.{pending_len}
use Rattle.historical_bitmap.proofs.Pending.EditedAfter.{tried_run_leaves}
use Rattle.historical_bitmap.proofs.Pending.Lengthened.{append_held, run_appends}
use Rattle.historical_bitmap.proofs.bitmap.historical.lengths.BitMap+N+Dirty+N.try_extend_from_bitmap.Goals as goal

pub extend_from_bitmap-requires : goal.extend_from_bitmap-requires
extend_from_bitmap-requires g c =
    let space : bit_len g.row.N (pending_bits g.row.N c.self.inside.current c.self.inside.state) + length c.args.other.now < 2 ^ 64 = rw (sym c.self.view_is) at c.requires.space in
    let filled = eqb-false (length c.args.other.now) 0 (sym c.is_empty.ensures ∙ c.if-is_empty.false) in
    (omega (arith, c.len.ensures.width.fits), (omega (arith, c.len.ensures.width.fits), (omega (arith, c.len.ensures.width.fits), (c.self.invariant.0, (omega (arith, filled), omega (arith, space, pending_len g.row.N c.self.inside.current c.self.inside.state c.len.ensures.width.positive c.self.invariant.0))))))

pub invariant_of-self : goal.invariant_of-self
invariant_of-self g c = (tried_run_fits g.row.N c.self.inside.current c.self.inside.state c.extend_from_bitmap.new.self c.len.ensures.width.positive c.self.invariant.0 c.extend_from_bitmap.result c.args.other.now c.extend_from_bitmap.ensures.ok c.extend_from_bitmap.ensures.err, c.self.invariant.1)

pub returns-clause-pending : goal.returns-clause-pending
returns-clause-pending g c =
    let filled = eqb-false (length c.args.other.now) 0 (sym c.is_empty.ensures ∙ c.if-is_empty.false) in
    rw (← c.self.view_is) (ok_map c.extend_from_bitmap.result (run_appends g.row.N _ _ c.args.other.now) (tried_run g.row.N c.self.inside.current c.self.inside.commits c.self.inside.last c.self.inside.state c.extend_from_bitmap.new.self c.len.ensures.width.positive c.self.invariant.0 c.extend_from_bitmap.result c.args.other.now (omega (arith, filled)) c.extend_from_bitmap.ensures.ok))

pub returns-clause-ok : goal.returns-clause-ok
returns-clause-ok g c =
    let filled = eqb-false (length c.args.other.now) 0 (sym c.is_empty.ensures ∙ c.if-is_empty.false) in
    rw (← c.self.view_is) (tried_run g.row.N c.self.inside.current c.self.inside.commits c.self.inside.last c.self.inside.state c.extend_from_bitmap.new.self c.len.ensures.width.positive c.self.invariant.0 c.extend_from_bitmap.result c.args.other.now (omega (arith, filled)) c.extend_from_bitmap.ensures.ok)

pub returns-clause-keeps : goal.returns-clause-keeps
returns-clause-keeps g c =
    let filled = eqb-false (length c.args.other.now) 0 (sym c.is_empty.ensures ∙ c.if-is_empty.false) in
    rw (← c.self.view_is, pending_len g.row.N c.self.inside.current c.self.inside.state c.len.ensures.width.positive c.self.invariant.0) (tried_run_leaves g.row.N c.self.inside.current c.self.inside.commits c.self.inside.last c.self.inside.state c.extend_from_bitmap.new.self c.len.ensures.width.positive c.extend_from_bitmap.result c.args.other.now (length c.args.other.now) refl (omega (arith, filled)) c.extend_from_bitmap.ensures.ok)

pub returns-clause-edited : goal.returns-clause-edited
returns-clause-edited g c =
    rw (← c.self.view_is) (append_held c.extend_from_bitmap.result g.row.N c.self.inside.current c.self.inside.commits c.self.inside.last c.self.inside.state c.args.other.now c.len.ensures.width.positive c.self.invariant.0 c.extend_from_bitmap.ensures.edited)
