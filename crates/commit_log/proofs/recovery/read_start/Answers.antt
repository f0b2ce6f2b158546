use Rattle.std.proofs.Common.{◌≡◌, ◌∙◌, IfErr, alloc_error, ap, rules, sym}
use Rattle.log_frames.specs.Frames.{frame_at}
use Rattle.log_frames.specs.declared.frame.Place.{Place}
use Rattle.commit_log.specs.Kept.{kept_of}
use Rattle.commit_log.specs.declared.recovery.RecoverError.TheVariants.{Memory}
use Rattle.commit_log.proofs.RecoverErrors.{bad_base, first_frame, memory_error}
use Rattle.commit_log.proofs.Recovering.{begun}
use Rattle.commit_log.proofs.recovery.read_start.Goals as goal

pub returns-in-Err-Torn-clause-cause : goal.returns-in-Err-Torn-clause-cause
returns-in-Err-Torn-clause-cause g c =
    let start = c.in-Ok.found in
    record {
      rest = start.1.now;
      header_is = c.in-Ok.ensures.parts;
      stop = ap (λ (p : Place). frame_at p start.1.now) (sym c.in-Ok.ensures.place) ∙ (rw c.in-Err-Torn.field-0-is at c.in-Err-Torn.ensures.exact);
    }

pub returns-in-Err-read_base-clause-cause : goal.returns-in-Err-read_base-clause-cause
returns-in-Err-read_base-clause-cause g c =
    let start = c.in-Ok.found in
    let frame = c.in-Ok-next_frame.frame in
    bad_base g.row.N c.args.bytes.now start.1.now frame.body.now frame.rest.now start.0 c.in-Err-read_base.error c.base_error.result
    c.in-Ok.ensures.parts c.in-Ok.ensures.place c.in-Ok-next_frame.ensures.exact c.in-Err-read_base.ensures.error c.base_error.ensures

pub returns-in_err-bitmap-clause-cause : goal.returns-in_err-bitmap-clause-cause
returns-in_err-bitmap-clause-cause g c =
    let start = c.in-Ok.found in
    let frame = c.in-Ok-next_frame.frame in
    let memory : IfErr c.from_residual.result (λ e. e ≡ Memory alloc_error) = search rules in
    memory_error g.row.N c.args.bytes.now c.from_residual.result
    (first_frame g.row.N c.args.bytes.now start.1.now frame.body.now frame.rest.now start.0 c.in-Ok.ensures.parts c.in-Ok.ensures.place c.in-Ok-next_frame.ensures.exact) memory

pub returns-clause-state : goal.returns-clause-state
returns-clause-state g c =
    let start = c.in-Ok.found in
    let frame = c.in-Ok-next_frame.frame in
    let base = c.in-Ok-read_base.base in
    begun g.row.N c.args.bytes.now start.1.now frame.body.now frame.rest.now start.0 frame.next (record { bits = base.0; past = base.1 }) (kept_of g.row.N c.in_ok-bitmap.bitmap)
    c.in-Ok.ensures.parts c.in-Ok.ensures.place c.in-Ok-next_frame.ensures.parts c.in-Ok-next_frame.ensures.next c.in-Ok-next_frame.ensures.body c.in-Ok-read_base.ensures.found c.in-Ok-read_base.ensures.fits c.in_ok-bitmap.ensures
