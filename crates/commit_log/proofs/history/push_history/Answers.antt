use Rattle.std.proofs.Common.{ℕ, List, ◌++◌, ◌∙◌, ap, append_assoc}
use Rattle.log_frames.specs.Frames.{frame}
use Rattle.log_frames.specs.Header.{header}
use Rattle.commit_log.specs.History.{history_base}
use Rattle.commit_log.specs.Kept.{kept_of}
use Rattle.commit_log.proofs.Histories.{base_some, begins_on}
use Rattle.commit_log.proofs.history.push_history.Goals as goal

pub push_frame-requires : goal.push_frame-requires
push_frame-requires g c = base_some g.row.N (history_base (kept_of g.row.N c.args.bitmap.now)) c.in_ok-base.base.items c.deref.result.now c.in_ok-base.ensures.bytes c.deref.ensures.value

pub returns-clause-begins : goal.returns-clause-begins
returns-clause-begins g c =
    let first : List ℕ = header g.row.N in
    let second : List ℕ = frame c.in_ok-place.place c.deref.result.now in
    let start : List ℕ = c.args.out.now.items in
    begins_on c.push_frame.new.out.items start (first ++ second) c.push_commits.new.out.items c.push_commits.ensures.begins
    (c.in_ok-place-2.ensures.items ∙ ap (λ (xs : List ℕ). xs ++ second) c.in_ok-place.ensures.items ∙ append_assoc start first second)
