use Rattle.std.proofs.Common.{◌≡◌, None, arith}
use Rattle.historical_bitmap.specs.View.{commit_error, history_of, pending_of}
use Rattle.commit_log.specs.Accepted.{Follows}
use Rattle.commit_log.specs.Kept.{change_to}
use Rattle.commit_log.proofs.Following.{change_follows, ok_both}
use Rattle.commit_log.proofs.Applied.{commit_entry}
use Rattle.commit_log.proofs.calls.commit_is_an_entry.Goals as goal

pub returns-clause-entry : goal.returns-clause-entry
returns-clause-entry g c =
    let n = g.row.N in
    let b = c.args.batch in
    commit_entry n c.args.number b.current (pending_of n b) (history_of n b) b.last c.commit.result c.len.ensures.width.positive c.commit.ensures.current c.commit.ensures.history c.commit.ensures.last

pub returns-clause-accepted : goal.returns-clause-accepted
returns-clause-accepted g c =
    let n = g.row.N in
    let b = c.args.batch in
    ok_both c.commit.result (commit_error b.last c.args.number ≡ None) (Follows n b.current (change_to n c.args.number b.current (pending_of n b))) c.commit.ensures.accepted
    (change_follows n c.args.number b.current (pending_of n b) c.len.ensures.width.positive (omega (arith, c.newly_pruned_chunks.ensures)))
