use Rattle.commit_log.specs.Delta.{view_delta}
use Rattle.commit_log.specs.Kept.{kept_of}
use Rattle.commit_log.proofs.DeltaSteps.{complete_is, newer_fails, newer_is}
use Rattle.commit_log.proofs.deltas.apply_delta.Goals as goal

pub returns-in-Err-clause-complete : goal.returns-in-Err-clause-complete
returns-in-Err-clause-complete g c =
    complete_is g.row.N (kept_of g.row.N c.args.bitmap) c.args.bytes.now c.len.ensures.width c.in-Err.error c.in-Err.ensures.error

pub returns-in-Err-clause-newer : goal.returns-in-Err-clause-newer
returns-in-Err-clause-newer g c =
    newer_fails g.row.N (kept_of g.row.N c.args.bitmap) c.args.bytes.now c.len.ensures.width c.in-Err.error c.in-Err.ensures.error

pub returns-in-Ok-apply_accepted-clause-entry : goal.returns-in-Ok-apply_accepted-clause-entry
returns-in-Ok-apply_accepted-clause-entry g c = record {
  delta = view_delta g.row.N c.in-Ok.delta;
  fits = c.in-Ok.ensures.fits;
  encoded = c.in-Ok.ensures.encoded;
  starts = c.in-Ok.ensures.starts;
  accepted = c.in-Ok.ensures.accepted;
  state = c.in-Ok-apply_accepted.ensures.entry;
}

pub returns-in-Ok-apply_accepted-clause-newer : goal.returns-in-Ok-apply_accepted-clause-newer
returns-in-Ok-apply_accepted-clause-newer g c =
    newer_is g.row.N (kept_of g.row.N c.args.bitmap) c.args.bytes.now c.len.ensures.width (kept_of g.row.N c.in-Ok-apply_accepted.bitmap) (returns-in-Ok-apply_accepted-clause-entry g c)

pub returns-in-Err-apply_accepted-clause-error : goal.returns-in-Err-apply_accepted-clause-error
returns-in-Err-apply_accepted-clause-error g c = record {
  delta = view_delta g.row.N c.in-Ok.delta;
  fits = c.in-Ok.ensures.fits;
  encoded = c.in-Ok.ensures.encoded;
  holds = (c.in-Ok.ensures.starts, c.in-Ok.ensures.accepted);
}
