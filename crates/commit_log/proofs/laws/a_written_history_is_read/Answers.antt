use Rattle.std.proofs.Common.{ℕ, ◌++◌, List, [], sym, ap, ◌∙◌}
use Rattle.std.proofs.lemmas.List.{append-nil}
use Rattle.std.proofs.lemmas.Result.{IfOk-weaker}
use Rattle.commit_log.specs.History.{history_bytes}
use Rattle.commit_log.specs.Kept.{kept_of}
use Rattle.commit_log.proofs.laws.a_written_history_is_read.Goals as goal

pub returns-clause-same : goal.returns-clause-same
returns-clause-same g c =
    let s = kept_of g.row.N c.args.bitmap.now in
    let bytes = history_bytes g.row.N s in
    let is = c.as_slice-from.ensures.value ∙ c.in_ok-write_history.ensures.bytes ∙ ap (λ (x : List ℕ). x ++ bytes) c.new-bytes.ensures.items in
    IfOk-weaker c.read_history.result _ _ (λ b h. h.0)
    (c.read_history.ensures.again s [] c.in_ok-write_history.ensures.log c.in_ok-write_history.ensures.ends (is ∙ sym (append-nil bytes)))

pub returns-clause-complete : goal.returns-clause-complete
returns-clause-complete g c = λ within.
    let s = kept_of g.row.N c.args.bitmap.now in
    let bytes = history_bytes g.row.N s in
    let is = c.as_slice-from.ensures.value ∙ c.in_ok-write_history.ensures.bytes ∙ ap (λ (x : List ℕ). x ++ bytes) c.new-bytes.ensures.items in
    c.read_history.ensures.complete s [] c.in_ok-write_history.ensures.log within (is ∙ sym (append-nil bytes))
