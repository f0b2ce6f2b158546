use Rattle.std.proofs.Common.{ap, subst, ◌∙◌, arith}
use Rattle.log_frames.specs.Frames.{Gives}
use Rattle.log_frames.specs.Header.{header_at}
use Rattle.log_frames.proofs.Headers.{header-again, has_parts, has_place, has_end}
use Rattle.log_frames.proofs.header.read_header.Goals as goal

pub returns-clause-parts : goal.returns-clause-parts
returns-clause-parts c = has_parts c.args.width c.args.bytes.now c.check_header.result (λ i. omega (arith, c.type_inv.bytes i)) c.check_header.ensures.exact

pub returns-clause-place : goal.returns-clause-place
returns-clause-place c = has_place c.args.width c.args.bytes.now c.check_header.result (λ i. omega (arith, c.type_inv.bytes i)) c.check_header.ensures.exact c.check_header.ensures.at c.check_header.ensures.digest

pub returns-clause-only : goal.returns-clause-only
returns-clause-only c = λ rest is. subst (λ r. Gives (λ found. found.1.now) c.check_header.result r) (ap (header_at c.args.width) is ∙ header-again c.args.width rest (omega (arith, c.ranges.width))) c.check_header.ensures.exact

pub returns-clause-end : goal.returns-clause-end
returns-clause-end c = has_end c.args.width c.args.bytes.now c.check_header.result (λ i. omega (arith, c.type_inv.bytes i)) c.check_header.ensures.exact c.check_header.ensures.at
