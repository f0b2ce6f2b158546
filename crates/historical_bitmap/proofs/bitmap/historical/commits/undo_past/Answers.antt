use Rattle.std.proofs.Common.{◌-◌, ap, arith, sym, ◌∙◌}
use Rattle.historical_bitmap.proofs.History.KeptCommits.{last_can_undo, last_undone}
use Rattle.historical_bitmap.proofs.History.Positions.{all_between, last_between, none_between}
use Rattle.historical_bitmap.specs.History.{undone}
use Rattle.historical_bitmap.proofs.bitmap.historical.commits.undo_past.Goals as goal

pub loop-position-init : goal.loop-position-init
loop-position-init g c =
    let all = all_between c.past-first.result c.len-position.result c.args.commits.now c.len-position.ensures ∙ c.past-first.ensures.later in
    record { within = omega arith; leads = (ap (λ cs. undone g.row.N cs c.args.bitmap.now) all, rw all c.requires) }

pub undo-requires : goal.undo-requires
undo-requires g c =
    let number = c.commit.result.0 in
    let r = c.commit.result.1.now in
    let last = last_between c.past-first.result (c.loop-position.position - 1) c.loop-position.position c.args.commits.now (number, r) (omega arith) (omega arith) c.commit.ensures in
    (omega arith, (omega arith, last_can_undo g.row.N number _ _ r c.loop-position.bitmap _ last c.loop-position.invariant.leads))

pub loop-position-preserved : goal.loop-position-preserved
loop-position-preserved g c =
    let number = c.commit.result.0 in
    let r = c.commit.result.1.now in
    let last = last_between c.past-first.result (c.loop-position.position - 1) c.loop-position.position c.args.commits.now (number, r) (omega arith) (omega arith) c.commit.ensures in
    record {
      within = omega arith;
      leads = last_undone g.row.N number _ _ r c.loop-position.bitmap c.undo.new.newer _ last c.in_ok-undo.ensures c.loop-position.invariant.leads;
    }

pub returns : goal.returns
returns g c =
    let none = none_between c.past-first.result c.loop-position.position c.args.commits.now c.loop-position-test.false c.loop-position.invariant.within in
    record { ok = sym (ap (λ cs. undone g.row.N cs c.loop-position.bitmap) none) ∙ c.loop-position.invariant.leads.0 }
