use Rattle.std.proofs.Common.{Ok, arith}
use Rattle.historical_bitmap.specs.declared.bitmap.historical.error.Error.{Error}
use Rattle.historical_bitmap.specs.View.{history_of, pending_of}
use Rattle.commit_log.proofs.Applied.{commit_entry}
use Rattle.commit_log.proofs.Fits.{change_fits}
use Rattle.commit_log.proofs.Following.{change_follows}
use Rattle.commit_log.proofs.log.commit_logged.Goals as goal

pub returns-clause-written : goal.returns-clause-written
returns-clause-written g c = rw c.in_ok-prepared.ensures.prepared at c.in-Ok.ensures.ok

pub returns-clause-follows : goal.returns-clause-follows
returns-clause-follows g c =
    let n = g.row.N in
    let b = c.args.batch in
    record {
      fits = change_fits n c.args.number b.current (pending_of n b) c.len.ensures.width.positive c.len.ensures.bound (omega (arith, c.ranges.number.fits));
      small = rw c.in_ok-prepared.ensures.prepared at c.in-Ok.ensures.small;
      accepted = (c.in_ok-prepared.ensures.accepted, change_follows n c.args.number b.current (pending_of n b) c.len.ensures.width.positive (omega (arith, c.newly_pruned_chunks.ensures)));
    }

pub returns-clause-entry : goal.returns-clause-entry
returns-clause-entry g c =
    let n = g.row.N in
    let b = c.args.batch in
    commit_entry {E = Error} n c.args.number b.current (pending_of n b) (history_of n b) b.last (Ok c.commit.result) c.len.ensures.width.positive
    (rw c.in_ok-prepared.ensures.prepared at c.commit.ensures.current) (rw c.in_ok-prepared.ensures.prepared at c.commit.ensures.history) (rw c.in_ok-prepared.ensures.prepared at c.commit.ensures.last)
