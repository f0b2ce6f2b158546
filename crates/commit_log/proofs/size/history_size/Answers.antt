use Rattle.std.proofs.Common.{◌∙◌, sym, arith}
use Rattle.commit_log.specs.Kept.{kept_of}
use Rattle.commit_log.proofs.Histories.{is_kept, neighbours}
use Rattle.commit_log.proofs.Sizes.{all_counted, before_commits, before_size, commits_place, none_counted, nothing_counted, one_counted, part_le, whole_size}
use Rattle.commit_log.proofs.size.history_size.Goals as goal

pub returns-in_err-size : goal.returns-in_err-size
returns-in_err-size g c =
    let s = kept_of g.row.N c.args.bitmap.now in
    let before = before_size g.row.N s c.state_size.result c.state_size.ensures in
    rw c.from_residual.ensures (λ h. c.in_err-size.ensures (omega (arith, h, before, whole_size g.row.N s)))

pub returns-in_default : goal.returns-in_default
returns-in_default g c =
    let s = kept_of g.row.N c.args.bitmap.now in
    let before = before_size g.row.N s c.state_size.result c.state_size.ensures in
    let none = nothing_counted g.row.N s.history (commits_place g.row.N s) (sym c.commits-numbers.ensures.items ∙ c.in_default.ensures.steps.0) in
    let fits = c.in_ok-size.ensures.0 in
    let is = c.in_ok-size.ensures.1 in
    (omega (arith, before, none, whole_size g.row.N s, fits), omega (arith, before, none, whole_size g.row.N s, is))

pub loop-to-init : goal.loop-to-init
loop-to-init g c =
    let s = kept_of g.row.N c.args.bitmap.now in
    none_counted g.row.N s.history c.in-Some.from c.next.new.self (commits_place g.row.N s) (before_commits g.row.N s) c.in_ok-size.size (sym c.commits-numbers.ensures.items ∙ c.in-Some.ensures.steps) (c.in_ok-size.ensures.1 ∙ before_size g.row.N s c.state_size.result c.state_size.ensures) (omega (arith, c.in_ok-size.ensures.0, c.in_ok-size.ensures.1))

pub commit_size-requires : goal.commit_size-requires
commit_size-requires g c =
    let s = kept_of g.row.N c.args.bitmap.now in
    let l = c.loop-to.invariant in
    let a = neighbours g.row.N s.history c.loop-to.from c.in-Some-next.to c.loop-to.numbers c.next-in-loop-to.new.self (commits_place g.row.N s) (before_commits g.row.N s) l.out l.place c.commits-numbers.ensures.ascending l.writes c.in-Some-next.ensures.steps in
    (omega arith, (omega (arith, a.rises), (is_kept s.history c.loop-to.from a.old a.older, is_kept s.history c.in-Some-next.to a.new a.newer)))

pub returns-in_err-commit_size : goal.returns-in_err-commit_size
returns-in_err-commit_size g c =
    let s = kept_of g.row.N c.args.bitmap.now in
    let l = c.loop-to.invariant in
    let a = neighbours g.row.N s.history c.loop-to.from c.in-Some-next.to c.loop-to.numbers c.next-in-loop-to.new.self (commits_place g.row.N s) (before_commits g.row.N s) l.out l.place c.commits-numbers.ensures.ascending l.writes c.in-Some-next.ensures.steps in
    let part = part_le g.row.N s.history c.loop-to.from c.in-Some-next.to c.next-in-loop-to.new.self (commits_place g.row.N s) (before_commits g.row.N s) l.out l.place a in
    rw c.from_residual-in_err-commit_size.ensures (λ h. c.in_err-commit_size.ensures a.old a.new a.older a.newer (omega (arith, h, part, whole_size g.row.N s)))

pub returns-in_err-size-2 : goal.returns-in_err-size-2
returns-in_err-size-2 g c =
    let s = kept_of g.row.N c.args.bitmap.now in
    let l = c.loop-to.invariant in
    let a = neighbours g.row.N s.history c.loop-to.from c.in-Some-next.to c.loop-to.numbers c.next-in-loop-to.new.self (commits_place g.row.N s) (before_commits g.row.N s) l.out l.place c.commits-numbers.ensures.ascending l.writes c.in-Some-next.ensures.steps in
    let part = part_le g.row.N s.history c.loop-to.from c.in-Some-next.to c.next-in-loop-to.new.self (commits_place g.row.N s) (before_commits g.row.N s) l.out l.place a in
    let commit = c.in_ok-commit_size.ensures a.old a.new a.older a.newer in
    rw c.from_residual-in_err-size-2.ensures (λ h. c.in_err-size-2.ensures (omega (arith, h, part, commit.1, l.size_is, whole_size g.row.N s)))

pub loop-to-preserved : goal.loop-to-preserved
loop-to-preserved g c =
    let s = kept_of g.row.N c.args.bitmap.now in
    let l = c.loop-to.invariant in
    let a = neighbours g.row.N s.history c.loop-to.from c.in-Some-next.to c.loop-to.numbers c.next-in-loop-to.new.self (commits_place g.row.N s) (before_commits g.row.N s) l.out l.place c.commits-numbers.ensures.ascending l.writes c.in-Some-next.ensures.steps in
    let commit = c.in_ok-commit_size.ensures a.old a.new a.older a.newer in
    one_counted g.row.N s.history c.loop-to.from c.in-Some-next.to c.next-in-loop-to.new.self (commits_place g.row.N s) (before_commits g.row.N s) l.out l.place c.loop-to.size c.in_ok-commit_size.field-0 c.in_ok-size-2.size a l.size_is commit.1 c.in_ok-size-2.ensures.1 (omega (arith, c.in_ok-size-2.ensures.0, c.in_ok-size-2.ensures.1))

pub returns : goal.returns
returns g c =
    let s = kept_of g.row.N c.args.bitmap.now in
    let l = c.loop-to.invariant in
    let all = all_counted g.row.N s.history c.loop-to.from c.loop-to.numbers (commits_place g.row.N s) (before_commits g.row.N s) c.loop-to.size l c.in_default-next.ensures.steps.0 in
    (omega (arith, all, l.fits, whole_size g.row.N s), omega (arith, all, whole_size g.row.N s))
