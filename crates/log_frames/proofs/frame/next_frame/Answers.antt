use Rattle.std.proofs.Common.{ap, subst, ◌∙◌, arith}
use Rattle.log_frames.specs.Frames.{Gives, view, frame_at}
use Rattle.log_frames.proofs.Frames.{frame-again, has_parts, has_body, has_end}
use Rattle.log_frames.proofs.frame.next_frame.Goals as goal

pub returns-clause-parts : goal.returns-clause-parts
returns-clause-parts c = has_parts c.args.place c.args.bytes.now c.read_frame.result (λ i. omega (arith, c.type_inv.bytes i)) (omega (arith, c.requires)) c.read_frame.ensures.exact

pub returns-clause-body : goal.returns-clause-body
returns-clause-body c = has_body c.args.place c.args.bytes.now c.read_frame.result (λ i. omega (arith, c.type_inv.bytes i)) (omega (arith, c.requires)) c.read_frame.ensures.exact

pub returns-clause-only : goal.returns-clause-only
returns-clause-only c = λ body rest h is. subst (λ r. Gives view c.read_frame.result r) (ap (frame_at c.args.place) is ∙ frame-again c.args.place body rest h) c.read_frame.ensures.exact

pub returns-clause-end : goal.returns-clause-end
returns-clause-end c = has_end c.args.place c.args.bytes.now c.read_frame.result (λ i. omega (arith, c.type_inv.bytes i)) (omega (arith, c.requires)) c.read_frame.ensures.exact c.read_frame.ensures.next
