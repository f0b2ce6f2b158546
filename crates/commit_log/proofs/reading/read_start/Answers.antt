use Rattle.std.proofs.Common.{◌∙◌, ◌++◌, ap, sym, subst}
use Rattle.std.proofs.lemmas.Result.{err_from_is_err_and}
use Rattle.log_frames.specs.Frames.{frame, frame_at, next}
use Rattle.log_frames.specs.declared.frame.Place.{Place}
use Rattle.commit_log.specs.Kept.{kept_of}
use Rattle.commit_log.specs.Base.{Base}
use Rattle.commit_log.specs.Reading.{ReadsPart, ranges}
use Rattle.commit_log.proofs.ReadHistories.{base_stops, has_base, part_begun}
use Rattle.commit_log.proofs.reading.read_start.Goals as goal

pub returns-in-Err-read_base_within-clause-error : goal.returns-in-Err-read_base_within-clause-error
returns-in-Err-read_base_within-clause-error g c =
    let n = g.row.N in
    let bytes = c.args.bytes.now in
    let rest = c.in-Ok.found.1.now in
    let body = c.in-Ok-next_frame.frame.body.now in
    let left = c.in-Ok-next_frame.frame.rest.now in
    let whole = ap (λ (p : Place). frame_at p rest) (sym c.in-Ok.ensures.place) ∙ c.in-Ok-next_frame.ensures.exact in
    base_stops n (ranges c.args.bits.now c.args.commits.now) bytes rest body left c.in-Err-read_base_within.error c.base_error.result c.in-Ok.ensures.parts whole c.in-Err-read_base_within.ensures.error c.base_error.ensures

pub returns-then-not-contains-clause-error : goal.returns-then-not-contains-clause-error
returns-then-not-contains-clause-error g c =
    let n = g.row.N in
    let base : Base = record { bits = c.in-Ok-read_base_within.base.0; past = c.in-Ok-read_base_within.base.1 } in
    let whole = ap (λ (p : Place). frame_at p c.in-Ok.found.1.now) (sym c.in-Ok.ensures.place) ∙ c.in-Ok-next_frame.ensures.exact in
    record {
      first = record { rest = c.in-Ok.found.1.now; header_is = c.in-Ok.ensures.parts; body = c.in-Ok-next_frame.frame.body.now; left = c.in-Ok-next_frame.frame.rest.now; whole = whole };
      base = base;
      encoded = c.in-Ok-read_base_within.ensures.found;
      fits = c.in-Ok-read_base_within.ensures.fits;
      bits = c.in-Ok-read_base_within.ensures.admitted;
      count_is = c.count-count.ensures;
      not_admitted = sym c.contains.ensures ∙ c.if-not-contains.true;
    }

pub returns-in_err-bitmap-clause-error : goal.returns-in_err-bitmap-clause-error
returns-in_err-bitmap-clause-error g c =
    let n = g.row.N in
    let base : Base = record { bits = c.in-Ok-read_base_within.base.0; past = c.in-Ok-read_base_within.base.1 } in
    let p = err_from_is_err_and c.from_residual.result c.from_residual.ensures.1 in
    let whole = ap (λ (p : Place). frame_at p c.in-Ok.found.1.now) (sym c.in-Ok.ensures.place) ∙ c.in-Ok-next_frame.ensures.exact in
    rw (p.1, p.2)
    (has_base n (ranges c.args.bits.now c.args.commits.now) c.args.bytes.now c.in-Ok.found.1.now c.in-Ok-next_frame.frame.body.now c.in-Ok-next_frame.frame.rest.now base c.requires.positive c.in-Ok.ensures.parts whole
    c.in-Ok-read_base_within.ensures.found c.in-Ok-read_base_within.ensures.fits c.in-Ok-read_base_within.ensures.admitted)

pub returns-clause-part : goal.returns-clause-part
returns-clause-part g c =
    let n = g.row.N in
    let r = ranges c.args.bits.now c.args.commits.now in
    let base : Base = record { bits = c.in-Ok-read_base_within.base.0; past = c.in-Ok-read_base_within.base.1 } in
    let body = c.in-Ok-next_frame.frame.body.now in
    let left = c.in-Ok-next_frame.frame.rest.now in
    let whole = c.in-Ok-next_frame.ensures.parts ∙ ap (λ (p : Place). frame p body ++ left) c.in-Ok.ensures.place in
    let place = c.in-Ok-next_frame.ensures.next ∙ ap (λ (p : Place). next p body) c.in-Ok.ensures.place in
    subst (λ (p : Place). ReadsPart n r c.args.bytes.now (kept_of n c.in_ok-bitmap.bitmap) p c.count-count.result left) (sym place)
    (part_begun n r c.args.bytes.now c.in-Ok.found.1.now body left base (kept_of n c.in_ok-bitmap.bitmap) c.count-count.result c.in-Ok.ensures.parts whole c.in-Ok-next_frame.ensures.body
    c.in-Ok-read_base_within.ensures.found c.in-Ok-read_base_within.ensures.fits c.in_ok-bitmap.ensures c.in-Ok-read_base_within.ensures.admitted c.count-count.ensures (sym c.contains.ensures ∙ c.if-not-contains.false))
