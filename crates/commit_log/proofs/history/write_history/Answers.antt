use Rattle.std.proofs.Common.{◌^◌, ◌<◌, ap, length, arith}
use Rattle.std.proofs.lemmas.List.{length-append}
use Rattle.commit_log.specs.History.{history_bytes}
use Rattle.commit_log.specs.Kept.{kept_of}
use Rattle.commit_log.proofs.Histories.{has_log, is_history}
use Rattle.commit_log.proofs.history.write_history.Goals as goal

pub returns-in-Ok-clause-log : goal.returns-in-Ok-clause-log
returns-in-Ok-clause-log g c =
    let n = g.row.N in
    let s = kept_of n c.args.bitmap.now in
    let small : length (history_bytes n s) < 2 ^ 64 = omega (arith, ap length c.in-Ok.ensures.bytes, length-append c.args.out.now.items (history_bytes n s), c.len-in-Ok.ensures, c.len-in-Ok.type_inv) in
    has_log n s c.commits.ensures.ascending c.pruned_counts_rise.ensures c.in-Ok.ensures.lens c.len.ensures.bound (is_history n c.args.bitmap.now c.last_number.ensures.latest) c.last_number.ensures.unreserved small

pub returns-in-Ok-clause-ends : goal.returns-in-Ok-clause-ends
returns-in-Ok-clause-ends g c = is_history g.row.N c.args.bitmap.now c.last_number.ensures.latest

pub returns-in-Err-clause-ends : goal.returns-in-Err-clause-ends
returns-in-Err-clause-ends g c = is_history g.row.N c.args.bitmap.now c.last_number.ensures.latest
