use Rattle.std.proofs.Common.{ap, ◌∙◌}
use Rattle.std.proofs.lemmas.Result.{IfOk-weaker}
use Rattle.commit_log.specs.History.{history_base, history_entries}
use Rattle.commit_log.specs.Kept.{kept_of}
use Rattle.commit_log.specs.Logs.{LogView}
use Rattle.commit_log.proofs.Recovering.{log_recovers}
use Rattle.commit_log.proofs.laws.a_begun_log_is_recovered.Goals as goal

pub returns-clause-same : goal.returns-clause-same
returns-clause-same g c =
    let n = g.row.N in
    let s = kept_of n c.args.bitmap.now in
    let laws = c.a_compacted_log_makes_each_state.ensures in
    let is = c.deref.ensures.value ∙ c.take-bytes.ensures.taken ∙ ap (λ (l : LogView). l.bytes) c.in_ok-log.ensures.value in
    let log = laws.is_log n s c.len.ensures.width.positive c.in_ok-log.ensures.log in
    let made = laws.made n s c.len.ensures.width.positive c.in_ok-log.ensures.ends in
    IfOk-weaker c.recover.result _ _ (λ found h. (h.0 ∙ made, h.1, h.2)) (c.recover.ensures.whole (history_base s) (history_entries n s) log is)

pub returns-clause-complete : goal.returns-clause-complete
returns-clause-complete g c =
    let n = g.row.N in
    let s = kept_of n c.args.bitmap.now in
    let is = c.deref.ensures.value ∙ c.take-bytes.ensures.taken ∙ ap (λ (l : LogView). l.bytes) c.in_ok-log.ensures.value in
    let log = c.a_compacted_log_makes_each_state.ensures.is_log n s c.len.ensures.width.positive c.in_ok-log.ensures.log in
    c.recover.ensures.only_memory _ _ _ (log_recovers n (history_base s) (history_entries n s) c.deref.result.now log is)
