use Rattle.std.proofs.Common.{◌∙◌, sym, arith}
use Rattle.historical_bitmap.specs.View.{history_of}
use Rattle.commit_log.specs.Entries.Entry.{Commit}
use Rattle.commit_log.specs.Kept.{change_to}
use Rattle.commit_log.proofs.Histories.{all_lens_fit, body_some, first_len_fits, is_kept, neighbours, none_fit, none_written, one_len_fits, one_written, rewritten}
use Rattle.commit_log.proofs.history.push_commits.Goals as goal

pub loop-to-init : goal.loop-to-init
loop-to-init g c =
    let history = history_of g.row.N c.args.bitmap.now in
    let keys = sym c.commits-numbers.ensures.items ∙ c.in-Some.ensures.steps in (
      none_written g.row.N history c.in-Some.from c.next.new.self c.args.place c.args.out.now.items keys,
      first_len_fits g.row.N history c.in-Some.from c.next.new.self keys c.requires,
    )

pub push_commit-requires : goal.push_commit-requires
push_commit-requires g c =
    let history = history_of g.row.N c.args.bitmap.now in
    let a = neighbours g.row.N history c.loop-to.from c.in-Some-next.to c.loop-to.numbers c.next-in-loop-to.new.self c.args.place c.args.out.now.items c.loop-to.out.items c.loop-to.place c.commits-numbers.ensures.ascending c.loop-to.invariant.0 c.in-Some-next.ensures.steps in
    (omega arith, (omega (arith, a.rises), (is_kept history c.loop-to.from a.old a.older, is_kept history c.in-Some-next.to a.new a.newer)))

pub push_frame-requires : goal.push_frame-requires
push_frame-requires g c =
    let history = history_of g.row.N c.args.bitmap.now in
    let a = neighbours g.row.N history c.loop-to.from c.in-Some-next.to c.loop-to.numbers c.next-in-loop-to.new.self c.args.place c.args.out.now.items c.loop-to.out.items c.loop-to.place c.commits-numbers.ensures.ascending c.loop-to.invariant.0 c.in-Some-next.ensures.steps in
    let entry = Commit (change_to g.row.N c.in-Some-next.to a.old a.new) in
    body_some entry c.deref.result.now (rewritten entry c.clear.new.self.items c.push_commit.new.out.items c.deref.result.now c.clear.ensures.items (c.in_ok-push_commit.ensures.entry a.old a.new a.older a.newer) c.deref.ensures.value)

pub loop-to-preserved : goal.loop-to-preserved
loop-to-preserved g c =
    let history = history_of g.row.N c.args.bitmap.now in
    let a = neighbours g.row.N history c.loop-to.from c.in-Some-next.to c.loop-to.numbers c.next-in-loop-to.new.self c.args.place c.args.out.now.items c.loop-to.out.items c.loop-to.place c.commits-numbers.ensures.ascending c.loop-to.invariant.0 c.in-Some-next.ensures.steps in
    let entry = Commit (change_to g.row.N c.in-Some-next.to a.old a.new) in (
      one_written g.row.N history c.loop-to.from c.in-Some-next.to c.next-in-loop-to.new.self c.args.place c.args.out.now.items c.loop-to.out.items c.push_frame.new.out.items c.deref.result.now c.loop-to.place c.in_ok-place.place a
          (rewritten entry c.clear.new.self.items c.push_commit.new.out.items c.deref.result.now c.clear.ensures.items (c.in_ok-push_commit.ensures.entry a.old a.new a.older a.newer) c.deref.ensures.value) c.in_ok-place.ensures.items c.in_ok-place.ensures.next,
      one_len_fits g.row.N history c.in-Some-next.to c.loop-to.numbers c.next-in-loop-to.new.self c.commits-numbers.ensures.ascending c.loop-to.invariant.1 c.in-Some-next.ensures.steps c.in_ok-push_commit.ensures.len,
    )

pub returns-in_default-clause-lens : goal.returns-in_default-clause-lens
returns-in_default-clause-lens g c = none_fit g.row.N (history_of g.row.N c.args.bitmap.now) (sym c.commits-numbers.ensures.items ∙ c.in_default.ensures.steps.0)

pub returns-clause-lens : goal.returns-clause-lens
returns-clause-lens g c = all_lens_fit g.row.N (history_of g.row.N c.args.bitmap.now) c.loop-to.numbers c.loop-to.invariant.1 c.in_default-next.ensures.steps.0
