use Rattle.std.proofs.Common.{subst, sym, ◌∙◌, arith}
use Rattle.log_frames.specs.Frames.{Gives, view}
use Rattle.log_frames.proofs.Frames.{frame-fails, frame-reads}
use Rattle.log_frames.proofs.frame.read_frame.Goals as goal

pub returns-then-head_fails-clause-exact : goal.returns-then-head_fails-clause-exact
returns-then-head_fails-clause-exact c =
    frame-fails c.args.place c.args.bytes.now c.number_at-size.result c.number_at.result (omega (arith, c.if-bytes-lt16.false)) (sym c.are_zero.ensures ∙ c.if-are_zero.false)
    c.number_at-size.ensures c.number_at.ensures (sym c.head_fails.ensures ∙ c.if-head_fails.true)

pub returns-clause-exact : goal.returns-clause-exact
returns-clause-exact c =
    subst (λ r. Gives view c.read_body.result r)
    (frame-reads c.args.place c.args.bytes.now c.number_at-size.result c.number_at.result (omega (arith, c.if-bytes-lt16.false)) (sym c.are_zero.ensures ∙ c.if-are_zero.false)
    c.number_at-size.ensures c.number_at.ensures (sym c.head_fails.ensures ∙ c.if-head_fails.false))
    c.read_body.ensures.exact
