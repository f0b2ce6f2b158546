use Rattle.std.proofs.Common.{◌≡◌, ◌∙◌, ap, arith, rules, subst, sym}
use Rattle.log_frames.specs.Frames.{frame_at}
use Rattle.log_frames.specs.declared.frame.Place.{Place}
use Rattle.log_frames.specs.declared.frame.Stop.TheVariants.{BadHead, BadDigest}
use Rattle.commit_log.specs.Kept.{kept_of}
use Rattle.commit_log.specs.Logs.{LogView}
use Rattle.commit_log.specs.Recovered.{IsRecoverError, ReadsTo}
use Rattle.commit_log.proofs.RecoverErrors.{bad_entry, has_first, lacks_frame}
use Rattle.commit_log.proofs.Recovering.{one_more}
use Rattle.commit_log.proofs.recovery.read_all.Goals as goal

pub returns-in-Err-Memory-clause-cause : goal.returns-in-Err-Memory-clause-cause
returns-in-Err-Memory-clause-cause g c = has_first g.row.N c.args.bytes.now (kept_of g.row.N c.loop-frame.bitmap) c.loop-frame.place c.loop-frame.rest.now c.loop-frame.invariant.reads

pub loop-frame-preserved : goal.loop-frame-preserved
loop-frame-preserved g c =
    let frame = c.in-Ok.frame in
    record {
      reads = one_more g.row.N c.args.bytes.now c.loop-frame.rest.now frame.body.now frame.rest.now (kept_of g.row.N c.loop-frame.bitmap) (kept_of g.row.N c.in-Ok-apply_entry.bitmap) c.loop-frame.place frame.next
          c.loop-frame.invariant.reads c.in-Ok.ensures.parts c.in-Ok.ensures.next c.in-Ok.ensures.body c.in-Ok-apply_entry.ensures.entry;
      end = omega (arith, c.in-Ok.ensures.end, c.loop-frame.invariant.end);
    }

pub returns-in-Err-Entry-clause-cause : goal.returns-in-Err-Entry-clause-cause
returns-in-Err-Entry-clause-cause g c =
    let frame = c.in-Ok.frame in
    bad_entry g.row.N c.args.bytes.now c.loop-frame.rest.now frame.body.now frame.rest.now (kept_of g.row.N c.loop-frame.bitmap) c.loop-frame.place c.in-Err-Entry.error c.damaged-in-Err-Entry.result
    c.loop-frame.invariant.reads c.in-Ok.ensures.exact (rw c.in-Err-Entry.field-0-is at c.in-Err-Entry.ensures.error) (rw c.in-Err-Entry.field-0-is at c.damaged-in-Err-Entry.ensures)

pub returns-clause-state : goal.returns-clause-state
returns-clause-state g c =
    let n = g.row.N in
    let rest = c.loop-frame.rest.now in
    let ends : c.after.result.place ≡ c.loop-frame.place = ap (λ (log : LogView). log.place) c.after.ensures in
    record {
      rest = rest;
      reads = subst (λ (p : Place). ReadsTo n c.args.bytes.now (kept_of n c.loop-frame.bitmap) p rest) (sym ends) c.loop-frame.invariant.reads;
      stop = ap (λ (p : Place). frame_at p rest) ends ∙ (rw c.in-Err-Torn.field-0-is at c.in-Err-Torn.ensures.exact);
      torn_is = search rules;
    }

pub returns-in-Err-BadHead-clause-cause : goal.returns-in-Err-BadHead-clause-cause
returns-in-Err-BadHead-clause-cause g c =
    let lacks = lacks_frame g.row.N c.args.bytes.now c.loop-frame.rest.now (kept_of g.row.N c.loop-frame.bitmap) c.loop-frame.place BadHead c.loop-frame.invariant.reads (rw c.in-Err-BadHead.field-0-is at c.in-Err-BadHead.ensures.exact) in
    subst (IsRecoverError g.row.N c.args.bytes.now) (sym c.damaged.ensures) lacks

pub returns-in-Err-BadDigest-clause-cause : goal.returns-in-Err-BadDigest-clause-cause
returns-in-Err-BadDigest-clause-cause g c =
    let lacks = lacks_frame g.row.N c.args.bytes.now c.loop-frame.rest.now (kept_of g.row.N c.loop-frame.bitmap) c.loop-frame.place BadDigest c.loop-frame.invariant.reads (rw c.in-Err-BadDigest.field-0-is at c.in-Err-BadDigest.ensures.exact) in
    subst (IsRecoverError g.row.N c.args.bytes.now) (sym c.damaged-in-Err-BadDigest.ensures) lacks
