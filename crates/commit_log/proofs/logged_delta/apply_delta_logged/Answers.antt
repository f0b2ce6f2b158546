use Rattle.std.proofs.Common.{drop, length, ap, ◌∙◌, arith}
use Rattle.commit_log.specs.Delta.{before_digest, view_delta}
use Rattle.commit_log.specs.Kept.{kept_of}
use Rattle.commit_log.proofs.DeltaBytes.{change-in, length-delta}
use Rattle.commit_log.proofs.DeltaSteps.{complete_is, newer_fails, newer_is}
use Rattle.commit_log.proofs.LoggedDelta.{after_is, follows_is, written_is}
use Rattle.commit_log.proofs.logged_delta.apply_delta_logged.Goals as goal

pub returns-in-Err-clause-complete : goal.returns-in-Err-clause-complete
returns-in-Err-clause-complete g c =
    complete_is g.row.N (kept_of g.row.N c.args.bitmap) c.args.bytes.now c.len.ensures.width c.in-Err.error c.in-Err.ensures.error

pub returns-in-Err-clause-newer : goal.returns-in-Err-clause-newer
returns-in-Err-clause-newer g c =
    newer_fails g.row.N (kept_of g.row.N c.args.bitmap) c.args.bytes.now c.len.ensures.width c.in-Err.error c.in-Err.ensures.error

pub change_bytes-requires : goal.change_bytes-requires
change_bytes-requires g c = omega (arith, length-delta g.row.N (view_delta g.row.N c.in-Ok.delta), ap length c.in-Ok.ensures.encoded)

pub apply_accepted_logged-requires : goal.apply_accepted_logged-requires
apply_accepted_logged-requires g c =
    let d = view_delta g.row.N c.in-Ok.delta in
    let there = c.change_bytes.ensures ∙ ap (λ bytes. drop 56 (before_digest bytes)) c.in-Ok.ensures.encoded ∙ change-in g.row.N d in
    (omega arith, (omega arith, (c.in-Ok.ensures.accepted, there)))

pub returns-in-Ok-apply_accepted_logged-clause-written : goal.returns-in-Ok-apply_accepted_logged-clause-written
returns-in-Ok-apply_accepted_logged-clause-written g c =
    let n = g.row.N in
    written_is n (kept_of n c.args.bitmap) (kept_of n c.in-Ok-apply_accepted_logged.bitmap) (view_delta n c.in-Ok.delta).change c.args.log.now c.apply_accepted_logged.new.log c.in-Ok.ensures.accepted c.in-Ok-apply_accepted_logged.ensures.entry c.in-Ok-apply_accepted_logged.ensures.written

pub returns-in-Ok-apply_accepted_logged-clause-follows : goal.returns-in-Ok-apply_accepted_logged-clause-follows
returns-in-Ok-apply_accepted_logged-clause-follows g c =
    let n = g.row.N in
    follows_is n (kept_of n c.args.bitmap) (kept_of n c.in-Ok-apply_accepted_logged.bitmap) (view_delta n c.in-Ok.delta).change c.in-Ok.ensures.accepted c.in-Ok-apply_accepted_logged.ensures.entry c.in-Ok.ensures.fits.change c.in-Ok-apply_accepted_logged.ensures.small

pub returns-in-Ok-apply_accepted_logged-clause-entry : goal.returns-in-Ok-apply_accepted_logged-clause-entry
returns-in-Ok-apply_accepted_logged-clause-entry g c =
    let n = g.row.N in
    after_is n (kept_of n c.args.bitmap) (kept_of n c.in-Ok-apply_accepted_logged.bitmap) (view_delta n c.in-Ok.delta).change c.in-Ok.ensures.accepted c.in-Ok-apply_accepted_logged.ensures.entry

pub returns-in-Ok-apply_accepted_logged-clause-brings : goal.returns-in-Ok-apply_accepted_logged-clause-brings
returns-in-Ok-apply_accepted_logged-clause-brings g c = record {
  delta = view_delta g.row.N c.in-Ok.delta;
  fits = c.in-Ok.ensures.fits;
  encoded = c.in-Ok.ensures.encoded;
  starts = c.in-Ok.ensures.starts;
  accepted = c.in-Ok.ensures.accepted;
  state = c.in-Ok-apply_accepted_logged.ensures.entry;
}

pub returns-in-Ok-apply_accepted_logged-clause-newer : goal.returns-in-Ok-apply_accepted_logged-clause-newer
returns-in-Ok-apply_accepted_logged-clause-newer g c =
    newer_is g.row.N (kept_of g.row.N c.args.bitmap) c.args.bytes.now c.len.ensures.width (kept_of g.row.N c.in-Ok-apply_accepted_logged.bitmap) (returns-in-Ok-apply_accepted_logged-clause-brings g c)

pub returns-in-Err-apply_accepted_logged-clause-error : goal.returns-in-Err-apply_accepted_logged-clause-error
returns-in-Err-apply_accepted_logged-clause-error g c = record {
  delta = view_delta g.row.N c.in-Ok.delta;
  fits = c.in-Ok.ensures.fits;
  encoded = c.in-Ok.ensures.encoded;
  holds = (c.in-Ok.ensures.starts, c.in-Ok.ensures.accepted);
}
