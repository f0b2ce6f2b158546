use Rattle.std.proofs.Common.{arith}
use Rattle.commit_log.specs.Delta.{view_delta}
use Rattle.commit_log.specs.Kept.{kept_of}
use Rattle.commit_log.proofs.Checks.{never_decided}
use Rattle.commit_log.proofs.DeltaBytes.{delta-takes}
use Rattle.commit_log.proofs.DeltaSteps.{change_error, read_error}
use Rattle.commit_log.proofs.deltas.read_accepted.Goals as goal

pub returns-in-Err-clause-error : goal.returns-in-Err-clause-error
returns-in-Err-clause-error g c = read_error g.row.N (kept_of g.row.N c.args.bitmap.now) c.args.bytes.now c.in-Err.error c.in-Err.ensures

pub returns-then-not-starts_at-clause-error : goal.returns-then-not-starts_at-clause-error
returns-then-not-starts_at-clause-error g c =
    let d = view_delta g.row.N c.in-Ok.delta in
    let t = delta-takes g.row.N c.args.bytes.now d (λ i. omega (arith, c.type_inv.bytes i)) c.in-Ok.ensures in
    record { delta = d; fits = t.fits; encoded = t.encoded; holds = λ starts. never_decided c.starts_at.result c.starts_at.ensures c.if-not-starts_at.true starts }

pub returns-in-Ok-check_change-clause-fits : goal.returns-in-Ok-check_change-clause-fits
returns-in-Ok-check_change-clause-fits g c =
    let t = delta-takes g.row.N c.args.bytes.now (view_delta g.row.N c.in-Ok.delta) (λ i. omega (arith, c.type_inv.bytes i)) c.in-Ok.ensures in
    t.fits

pub returns-in-Ok-check_change-clause-encoded : goal.returns-in-Ok-check_change-clause-encoded
returns-in-Ok-check_change-clause-encoded g c =
    let t = delta-takes g.row.N c.args.bytes.now (view_delta g.row.N c.in-Ok.delta) (λ i. omega (arith, c.type_inv.bytes i)) c.in-Ok.ensures in
    t.encoded

pub returns-in-Err-check_change-clause-error : goal.returns-in-Err-check_change-clause-error
returns-in-Err-check_change-clause-error g c =
    let n = g.row.N in
    let d = view_delta n c.in-Ok.delta in
    let t = delta-takes n c.args.bytes.now d (λ i. omega (arith, c.type_inv.bytes i)) c.in-Ok.ensures in
    change_error n (kept_of n c.args.bitmap.now) c.args.bytes.now d c.in-Err-check_change.error t (c.starts_at.ensures.0 c.if-not-starts_at.false) c.in-Err-check_change.ensures.error
