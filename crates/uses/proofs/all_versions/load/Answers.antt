use Rattle.std.proofs.Common.{[], arith, sym, ◌∙◌}
use Rattle.std.proofs.lemmas.List.{append-nil}
use Rattle.std.proofs.lemmas.Result.{err_from_is_err_and}
use Rattle.commit_log.specs.History.{history_bytes}
use Rattle.commit_log.specs.Reading.{ranges}
use Rattle.uses.proofs.Histories.{log_within}
use Rattle.uses.proofs.all_versions.load.Goals as goal

pub returns-in_err-versions-clause-same : goal.returns-in_err-versions-clause-same
returns-in_err-versions-clause-same c = λ saved has ends is.
    let within = log_within 8 (ranges c.any-any.result c.any-any.result) saved (omega arith) c.any-any.ensures c.any-any.ensures has in
    let p = err_from_is_err_and c.from_residual.result c.from_residual.ensures.1 in
    rw (p.1, p.2) (c.in_err-versions.ensures.complete saved [] has within (is ∙ sym (append-nil (history_bytes 8 saved))))

pub returns-then-not-is_empty-clause-same : goal.returns-then-not-is_empty-clause-same
returns-then-not-is_empty-clause-same c = λ saved has ends is.
    let read = c.in_ok-versions.ensures.again saved [] has ends (is ∙ sym (append-nil (history_bytes 8 saved))) in
    grind (arith, read.1, c.is_empty.ensures, c.if-not-is_empty.true)
