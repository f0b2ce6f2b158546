use Rattle.historical_bitmap.proofs.History.Positions.{past_at, up_to_at}
use Rattle.historical_bitmap.proofs.bitmap.historical.commit_list.CommitList.past.Goals as goal

pub returns-clause-earlier : goal.returns-clause-earlier
returns-clause-earlier g c = rw (← c.self.view_is) (up_to_at c.self.inside.commits.items c.first_past.result c.args.number c.first_past.ensures.earlier c.first_past.ensures.later c.first_past.ensures.within)

pub returns-clause-later : goal.returns-clause-later
returns-clause-later g c = rw (← c.self.view_is) (past_at c.self.inside.commits.items c.first_past.result c.args.number c.first_past.ensures.earlier c.first_past.ensures.later c.first_past.ensures.within)
