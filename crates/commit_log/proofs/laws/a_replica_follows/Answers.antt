use Rattle.std.proofs.Common.{◌∙◌}
use Rattle.std.proofs.lemmas.Option.{none-some, same_Some}
use Rattle.historical_bitmap.specs.View.{history_of}
use Rattle.commit_log.specs.Delta.{delta_between, encode_delta}
use Rattle.commit_log.proofs.DeltaSteps.{delta_there}
use Rattle.commit_log.proofs.laws.a_replica_follows.Goals as goal

pub returns-in-Ok-Some-clause-newer : goal.returns-in-Ok-Some-clause-newer
returns-in-Ok-Some-clause-newer g c = λ new order e f last.
    let n = g.row.N in
    let old = c.args.replica.current in
    let there = delta_there n (history_of n c.args.versions.now) c.args.from c.args.to old new order e f in
    let found = rw c.in-Ok-Some.field-0-is at c.in-Ok-Some.ensures.value in
    let is = same_Some c.in-Ok-Some.bytes.items (encode_delta n (delta_between n c.args.from old c.args.to new)) (found ∙ there) in
    c.apply_delta.ensures.newer c.args.from c.args.to new (c.delta.ensures.step old new order e f) last (c.deref.ensures.value ∙ is)

pub returns-in-Ok-None-clause-newer : goal.returns-in-Ok-None-clause-newer
returns-in-Ok-None-clause-newer g c = λ new order e f last.
    let n = g.row.N in
    let old = c.args.replica.current in
    let there = delta_there n (history_of n c.args.versions.now) c.args.from c.args.to old new order e f in
    let found = rw c.in-Ok-None.field-0-is at c.in-Ok-None.ensures.value in
    absurd (none-some (encode_delta n (delta_between n c.args.from old c.args.to new)) (found ∙ there))
