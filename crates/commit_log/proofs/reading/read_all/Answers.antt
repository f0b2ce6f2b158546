use Rattle.std.proofs.Common.{◌∙◌, ◌-◌, sym, subst, arith, inr}
use Rattle.std.proofs.lemmas.Result.{err_from_is_err_and}
use Rattle.log_frames.specs.declared.frame.Place.{Place}
use Rattle.commit_log.specs.Kept.{kept_of}
use Rattle.commit_log.specs.Reading.{IsHistoryError, ReadsPart, ranges}
use Rattle.commit_log.proofs.ReadHistories.{next_stops, part_more, part_whole, stops}
use Rattle.commit_log.proofs.reading.read_all.Goals as goal

pub returns-in-Err-clause-error : goal.returns-in-Err-clause-error
returns-in-Err-clause-error g c =
    let n = g.row.N in
    let r = ranges c.args.bits.now c.args.commits.now in
    subst (IsHistoryError n r c.args.bytes.now) (sym c.frame_error.ensures) (stops n r c.args.bytes.now c.in-Err.stop (record {
      place = c.loop-left.place;
      rest = c.loop-left.rest.now;
      good = inr (kept_of n c.loop-left.bitmap, c.loop-left.left, omega (arith, c.loop-left-test.true), c.loop-left.invariant.part);
      stop = c.in-Err.ensures.exact;
    }))

pub returns-in_err-bitmap-2-clause-error : goal.returns-in_err-bitmap-2-clause-error
returns-in_err-bitmap-2-clause-error g c =
    let n = g.row.N in
    let r = ranges c.args.bits.now c.args.commits.now in
    let p = err_from_is_err_and c.from_residual-in_err-bitmap-2.result c.from_residual-in_err-bitmap-2.ensures.1 in
    rw (p.1, p.2)
    (next_stops n r c.args.bytes.now c.loop-left.rest.now c.in-Ok.frame.body.now c.in-Ok.frame.rest.now (kept_of n c.loop-left.bitmap) c.loop-left.place c.loop-left.left c.in_err-bitmap-2.field-0.0 c.requires.positive (omega (arith, c.loop-left-test.true))
    c.loop-left.invariant.part c.in-Ok.ensures.exact c.in_err-bitmap-2.ensures.error)

pub loop-left-preserved : goal.loop-left-preserved
loop-left-preserved g c =
    let n = g.row.N in
    let r = ranges c.args.bits.now c.args.commits.now in
    let body = c.in-Ok.frame.body.now in
    let behind = c.in-Ok.frame.rest.now in
    let new = kept_of n c.in_ok-bitmap-2.bitmap in
    record {
      part = subst (λ (q : Place). ReadsPart n r c.args.bytes.now new q (c.loop-left.left - 1) behind) (sym c.in-Ok.ensures.next)
          (part_more n r c.args.bytes.now c.loop-left.rest.now body behind (kept_of n c.loop-left.bitmap) new c.loop-left.place c.loop-left.left (omega (arith, c.loop-left-test.true)) c.loop-left.invariant.part c.in-Ok.ensures.parts c.in-Ok.ensures.body c.in_ok-bitmap-2.ensures.made);
      end = c.in-Ok.ensures.end ∙ c.loop-left.invariant.end;
    }

pub returns-clause-history : goal.returns-clause-history
returns-clause-history g c =
    let n = g.row.N in
    let r = ranges c.args.bits.now c.args.commits.now in
    part_whole n r c.args.bytes.now (kept_of n c.loop-left.bitmap) c.loop-left.place c.loop-left.left c.loop-left.rest.now c.loop-left.invariant.part (omega (arith, c.loop-left-test.false))
