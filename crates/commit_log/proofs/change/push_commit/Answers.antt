use Rattle.std.proofs.Common.{◌^◌, ◌<◌, ◌∙◌, subst, sym}
use Rattle.std.proofs.lemmas.Option.{same_Some}
use Rattle.std.proofs.lemmas.Result.{IfOk-weaker}
use Rattle.bitmap_core.specs.PrunedBits.{PrunedBits, bit_len}
use Rattle.historical_bitmap.specs.View.{history_of}
use Rattle.commit_log.proofs.Pushing.{commit_pushed}
use Rattle.commit_log.proofs.change.push_commit.Goals as goal

pub returns-clause-entry : goal.returns-clause-entry
returns-clause-entry g c = λ old new older newer.
    let n = g.row.N in
    IfOk-weaker c.push_change.result _ _ (λ _ end.
    commit_pushed n (history_of n c.args.bitmap.now) c.args.from c.args.to old new c.unwrap-newer.result c.unwrap-changes.result c.args.out.now.items c.push.new.self.items c.push_change.new.out.items (sym c.unwrap-newer.ensures ∙ c.at.ensures.value) (sym c.unwrap-changes.ensures ∙ c.changed_chunks.ensures.value) older newer c.in_ok-push.ensures.items end)
    c.push_change.ensures

pub returns-clause-len : goal.returns-clause-len
returns-clause-len g c = λ new newer.
    let n = g.row.N in
    let same = same_Some c.unwrap-newer.result new (sym c.unwrap-newer.ensures ∙ c.at.ensures.value ∙ newer) in
    IfOk-weaker c.push_change.result _ _ (λ _ _. subst (λ (b : PrunedBits). bit_len n b < 2 ^ 64) same c.len.ensures.lawful.len_fits) c.push_change.ensures
