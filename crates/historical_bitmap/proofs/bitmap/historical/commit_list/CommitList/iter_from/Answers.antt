use Rattle.std.proofs.Common.{◌-◌, ap, arith, sym, ◌∙◌}
use Rattle.historical_bitmap.specs.History.{from_number}
use Rattle.historical_bitmap.proofs.History.Positions.{from_zero, past_at, past_previous, range_to_end}
use Rattle.historical_bitmap.proofs.bitmap.historical.commit_list.CommitList.iter_from.Goals as goal

pub returns-then-number-eq0 : goal.returns-then-number-eq0
returns-then-number-eq0 g c =
    rw (← c.self.view_is)
    (c.iter.ensures.rest ∙ sym (ap (λ m. from_number m c.self.inside.commits.items) c.if-number-eq0.true ∙ from_zero c.self.inside.commits.items))

pub returns : goal.returns
returns g c =
    rw (← c.self.view_is)
    (c.range.ensures.rest
    ∙ (range_to_end c.first_past-first.result c.self.inside.commits.len c.self.inside.commits.items (omega arith)
    ∙ (past_at c.self.inside.commits.items c.first_past-first.result (c.args.number - 1) c.first_past-first.ensures.earlier c.first_past-first.ensures.later c.first_past-first.ensures.within
    ∙ past_previous c.args.number (c.args.number - 1) c.self.inside.commits.items (omega (arith, c.if-number-eq0.false)))))
