use Rattle.std.proofs.Common.{◌∙◌, ap, sym}
use Rattle.std.proofs.lemmas.Result.{IfOk-weaker}
use Rattle.historical_bitmap.specs.View.{history_of}
use Rattle.commit_log.specs.Base.{encode_base}
use Rattle.commit_log.proofs.Histories.{counted, first_base, first_fits, first_kept, no_first_fits}
use Rattle.commit_log.proofs.history.history_base_bytes.Goals as goal

pub unwrap-first-requires : goal.unwrap-first-requires
unwrap-first-requires g c =
    first_kept (history_of g.row.N c.args.bitmap.now) c.in-Some.number c.next.new.self c.in_ok-get_at_commit.field-0 (sym c.commits-numbers.ensures.items ∙ c.in-Some.ensures.steps) c.in_ok-get_at_commit.ensures.ok

pub returns-clause-bytes : goal.returns-clause-bytes
returns-clause-bytes g c =
    let n = g.row.N in
    let s = c.args.bitmap.now in
    let count = counted c.next.new.self c.count-count.result c.count-count.ensures.ran in
    IfOk-weaker c.base_bytes-2.result _ _ (λ bytes is.
    is ∙ ap (encode_base n) (first_base s.current s.last (history_of n s) c.in-Some.number c.count-count.result c.next.new.self c.unwrap-first.result (sym c.commits-numbers.ensures.items ∙ c.in-Some.ensures.steps) (sym c.unwrap-first.ensures ∙ c.in_ok-get_at_commit.ensures.ok) count))
    c.base_bytes-2.ensures

pub returns-clause-first_len : goal.returns-clause-first_len
returns-clause-first_len g c =
    let n = g.row.N in
    IfOk-weaker c.base_bytes-2.result _ _ (λ _ _.
    first_fits n (history_of n c.args.bitmap.now) c.in-Some.number c.next.new.self c.unwrap-first.result (sym c.commits-numbers.ensures.items ∙ c.in-Some.ensures.steps) (sym c.unwrap-first.ensures ∙ c.in_ok-get_at_commit.ensures.ok) c.len.ensures.bound)
    c.base_bytes-2.ensures

pub returns-in_default-clause-first_len : goal.returns-in_default-clause-first_len
returns-in_default-clause-first_len g c =
    let n = g.row.N in
    IfOk-weaker c.base_bytes.result _ _ (λ _ _. no_first_fits n (history_of n c.args.bitmap.now) (sym c.commits-numbers.ensures.items ∙ c.in_default.ensures.steps.0)) c.base_bytes.ensures
