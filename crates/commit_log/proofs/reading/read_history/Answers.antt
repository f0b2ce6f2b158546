use Rattle.std.proofs.Common.{Err, ap, arith, inl, inr}
use Rattle.std.proofs.lemmas.Result.{err_from_is_err_and}
use Rattle.commit_log.specs.Kept.{kept_of}
use Rattle.commit_log.specs.Reading.{ranges}
use Rattle.commit_log.proofs.ReadHistories.{cut_error, cut_not_read, only_memory, read_again, read_long, short_is}
use Rattle.commit_log.proofs.reading.read_history.Goals as goal

pub returns-in_err-bitmap-clause-complete : goal.returns-in_err-bitmap-clause-complete
returns-in_err-bitmap-clause-complete g c =
    let n = g.row.N in
    let r = ranges c.args.bits.now c.args.commits.now in
    let p = err_from_is_err_and c.from_residual.result c.from_residual.ensures.1 in
    rw (p.1, p.2) (λ s rest has within is. only_memory n r c.args.from.now.now s rest c.in_err-bitmap.field-0.0 c.requires has within is c.in_err-bitmap.ensures.error)

pub returns-in_err-bitmap-clause-header : goal.returns-in_err-bitmap-clause-header
returns-in_err-bitmap-clause-header g c =
    let r = ranges c.args.bits.now c.args.commits.now in
    let p = err_from_is_err_and c.from_residual.result c.from_residual.ensures.1 in
    rw (p.1, p.2) (λ fewer. ap Err (short_is g.row.N r c.args.from.now.now c.in_err-bitmap.field-0.0 fewer c.in_err-bitmap.ensures.error))

pub returns-in_err-bitmap-clause-cut : goal.returns-in_err-bitmap-clause-cut
returns-in_err-bitmap-clause-cut g c =
    let n = g.row.N in
    let r = ranges c.args.bits.now c.args.commits.now in
    let p = err_from_is_err_and c.from_residual.result c.from_residual.ensures.1 in
    rw (p.1, p.2) (λ s m has within header fewer is. elim (cut_error n r c.args.from.now.now s m c.in_err-bitmap.field-0.0 c.requires has within header fewer is c.in_err-bitmap.ensures.error) [
      | inl short ↦ inl (ap Err short)
      | inr full ↦ inr (ap Err full)
    ])

pub returns-clause-header : goal.returns-clause-header
returns-clause-header g c = λ fewer.
    let r = ranges c.args.bits.now c.args.commits.now in
    absurd (omega (arith, fewer, read_long g.row.N r c.args.from.now.now (kept_of g.row.N c.in_ok-bitmap.bitmap) c.in_ok-bitmap.rest.now c.in_ok-bitmap.ensures.history))

pub returns-clause-cut : goal.returns-clause-cut
returns-clause-cut g c = λ s m has within header fewer is.
    let n = g.row.N in
    let r = ranges c.args.bits.now c.args.commits.now in
    absurd (cut_not_read n r c.args.from.now.now s (kept_of n c.in_ok-bitmap.bitmap) m c.in_ok-bitmap.rest.now c.requires.positive has fewer is c.in_ok-bitmap.ensures.history)

pub returns-clause-again : goal.returns-clause-again
returns-clause-again g c = λ s rest has ends is.
    let n = g.row.N in
    let r = ranges c.args.bits.now c.args.commits.now in
    read_again n r c.args.from.now.now s (kept_of n c.in_ok-bitmap.bitmap) rest c.in_ok-bitmap.rest.now c.requires.positive has ends is c.in_ok-bitmap.ensures.history
