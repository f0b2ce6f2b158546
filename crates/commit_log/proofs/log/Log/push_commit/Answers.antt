use Rattle.std.proofs.Common.{length, ap, ◌∙◌, arith}
use Rattle.commit_log.specs.Kept.{entry_of_commit}
use Rattle.commit_log.proofs.Entries.{entry_some}
use Rattle.commit_log.proofs.log.Log.push_commit.Goals as goal

pub push_frame-requires : goal.push_frame-requires
push_frame-requires g c =
    let same = ap length (c.deref.ensures.value ∙ c.in_ok-encode_commit.ensures) in
    omega (arith, same, entry_some (entry_of_commit g.row.N c.args.prepared.now.batch c.args.prepared.now.number))
