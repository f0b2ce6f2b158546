use Rattle.std.proofs.Common.{ap, arith, ◌∙◌}
use Rattle.std.specs.Prelude.{option_copied}
use Rattle.historical_bitmap.specs.History.{first_kept}
use Rattle.historical_bitmap.proofs.Index.Found.{next_found}
use Rattle.historical_bitmap.proofs.bitmap.historical.at.kept_past.Goals as goal

pub returns-in-Some : goal.returns-in-Some
returns-in-Some g c = next_found c.in-Some.rows.now c.args.commits.now c.args.number c.args.chunk (option_copied c.next_past.result) c.requires.rise c.in-Some.ensures c.next_past.ensures

pub first_kept-requires : goal.first_kept-requires
first_kept-requires g c = (omega arith, (omega (arith, c.requires.width.fits), rw c.requires.past c.requires.entries))

pub returns-in-None : goal.returns-in-None
returns-in-None g c = c.first_kept.ensures ∙ ap (λ cs. first_kept cs c.args.chunk) c.requires.past
