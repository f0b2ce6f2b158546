use Rattle.std.proofs.Common.{ap}
use Rattle.bitmap_session.proofs.Steps.{begun}
use Rattle.bitmap_session.proofs.session.clean.begin.Goals as goal

pub returns : goal.returns
returns g c =
    let made = c.into_dirty.ensures in
    let value = made.value in
    begun g.row.N c.args.bitmap c.into_dirty.result
    (record { current = ap (λ v. v.current) value; commits = ap (λ v. v.commits) value; last = ap (λ v. v.last) value })
    made.pending
    made.marks
