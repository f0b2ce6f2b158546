use Rattle.std.proofs.Common.{◌≡◌, ℕ, ◌++◌, List, [], sym, ap, ◌∙◌}
use Rattle.std.proofs.lemmas.List.{append-nil}
use Rattle.commit_log.specs.History.{history_bytes}
use Rattle.bitmap_session.specs.Saved.{IsOutside, kept_part}
use Rattle.bitmap_session.proofs.Saved.{ok_same}
use Rattle.bitmap_session.proofs.laws.a_saved_session_is_loaded.Goals as goal

pub returns-in-Ok-clause-same : goal.returns-in-Ok-clause-same
returns-in-Ok-clause-same g c =
    let s = kept_part c.args.session.now.state in
    let bytes = history_bytes g.row.N s in
    let is = c.as_slice-from.ensures.value ∙ c.in-Ok.ensures.written ∙ ap (λ (x : List ℕ). x ++ bytes) c.new-bytes.ensures.items in
    ok_same c.load.result (λ m. IsOutside m) (λ m. kept_part m.state ≡ s) (λ m. c.load.new.from.now ≡ []) c.load.ensures.outside
    (c.load.ensures.again s [] c.in-Ok.ensures.log c.in-Ok.ensures.ends (is ∙ sym (append-nil bytes)))

pub returns-in-Ok-clause-complete : goal.returns-in-Ok-clause-complete
returns-in-Ok-clause-complete g c = λ within.
    let s = kept_part c.args.session.now.state in
    let bytes = history_bytes g.row.N s in
    let is = c.as_slice-from.ensures.value ∙ c.in-Ok.ensures.written ∙ ap (λ (x : List ℕ). x ++ bytes) c.new-bytes.ensures.items in
    c.load.ensures.complete s [] c.in-Ok.ensures.log within (is ∙ sym (append-nil bytes))
