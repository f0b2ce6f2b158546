use Rattle.std.proofs.Common.{ℕ, get_or, subst}
use Rattle.bitmap_session.specs.declared.command.Command.TheVariants.{PushByte}
use Rattle.bitmap_c.specs.Calls.{Serves}
use Rattle.bitmap_c.specs.Reports.{ReportsEdit}
use Rattle.bitmap_c.proofs.Pushes.{pushed-take}
use Rattle.bitmap_c.proofs.many.push_each.Goals as goal

pub loop-i-preserved : goal.loop-i-preserved
loop-i-preserved g c =
    let byte = get_or c.args.bytes.now c.loop-i.i 0 in
    let step = subst (λ (status : ℕ). Serves g.row.N c.loop-i.session (PushByte byte) (ReportsEdit status) c.run_push_byte-status.new.session)
    c.if-status-ne-DONE.false c.run_push_byte-status.ensures in
    record { pushed = pushed-take g.row.N _ _ _ c.args.bytes.now c.loop-i.i c.loop-i-test.true c.loop-i.invariant.pushed step }
