use Rattle.std.proofs.Common.{◌≡◌, rules}
use Rattle.log_store.proofs.memory.keep.Goals as goal

pub returns-clause-ok : goal.returns-clause-ok
returns-clause-ok c =
    let same : c.in_ok-to_vec.field-0.items ≡ c.args.bytes.now = search rules in
    ((c.in_ok-to_vec.field-0, c.in_ok-before.before), same, c.in_ok-before.ensures, c.in_ok-push.ensures.items)
