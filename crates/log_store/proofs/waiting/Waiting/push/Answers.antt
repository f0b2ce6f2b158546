use Rattle.std.proofs.Common.{Result, Ok, Err, OnOk, ◌≡◌, ◌+◌, ◌^◌, ◌<◌, [], ◌∷◌, ◌++◌, length, ap, sym, subst, ◌∙◌}
use Rattle.commit_log.specs.Kept.{after}
use Rattle.commit_log.specs.Logs.{LogView, appended, framed}
use Rattle.log_store.specs.Buffered.{IsWaiting}
use Rattle.log_store.proofs.WaitingFrames.{waits_more}
use Rattle.log_store.proofs.waiting.Waiting.push.Goals as goal

-- what follows from two facts of an Ok
both : {T E P Q R : Type 0} (r : Result T E) → (P → Q → R) → OnOk r P → OnOk r Q → OnOk r R
both (Ok x) f p q = f p q
both (Err e) f p q = tt

pub returns-clause-waits : goal.returns-clause-waits
returns-clause-waits g c base begun waiting state e w fits accepted is =
    let n = g.row.N in
    let old : LogView = c.args.self.now in
    let new : LogView = c.append.new.self in
    let waits = λ (ok : new ≡ framed old c.args.body.now) (few : length new.bytes + 1 < 2 ^ 56).
    let same : new ≡ appended old e = ok ∙ ap (framed old) is in
    subst (IsWaiting n base begun (waiting ++ e ∷ []) (after n state e)) (sym same) (waits_more n base begun waiting state old e w fits accepted (subst (λ (x : LogView). length x.bytes + 1 < 2 ^ 56) same few)) in
    both c.append.result waits c.append.ensures.ok c.append.ensures.few
