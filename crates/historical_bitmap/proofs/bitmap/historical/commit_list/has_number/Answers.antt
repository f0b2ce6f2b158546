use Rattle.std.proofs.Common.{◌-◌, arith, sym}
use Rattle.historical_bitmap.proofs.History.Positions.{last_up_to, none_up_to}
use Rattle.historical_bitmap.proofs.bitmap.historical.commit_list.has_number.Goals as goal

pub returns-then-past-eq0 : goal.returns-then-past-eq0
returns-then-past-eq0 g c = sym (none_up_to c.args.commits.now.items c.first_past-past.result c.args.number c.first_past-past.ensures.earlier c.first_past-past.ensures.later c.if-past-eq0.true)

pub returns : goal.returns
returns g c =
    sym (last_up_to c.args.commits.now.items c.first_past-past.result c.args.number c.first_past-past.ensures.earlier c.first_past-past.ensures.later (c.first_past-past.result - 1) c.index-commit.result.now
    (omega (arith, c.if-past-eq0.false)) c.first_past-past.ensures.within c.index-commit.ensures c.requires)
