use Rattle.std.proofs.Common.{◌≡◌, ◌++◌, refl, subst, sym}
use Rattle.commit_log.specs.History.{IsHistory, history_bytes}
use Rattle.commit_log.specs.Reading.{IsWithin, ranges}
use Rattle.bitmap_session.specs.Machine.{Machine}
use Rattle.bitmap_session.specs.Saved.{IsOutside, kept_part}
use Rattle.bitmap_session.proofs.Saved.{cut_same, error_same, not_cut, not_error}
use Rattle.bitmap_session.proofs.session.Session.load.Goals as goal

pub returns-in-Ok-clause-value : goal.returns-in-Ok-clause-value
returns-in-Ok-clause-value g c =
    subst (λ (m : Machine). c.args.from.now.now ≡ history_bytes g.row.N (kept_part m.state) ++ c.read_history.new.from.now) (sym c.outside.ensures) c.in-Ok.ensures.value

pub returns-in-Ok-clause-outside : goal.returns-in-Ok-clause-outside
returns-in-Ok-clause-outside g c = subst (λ (m : Machine). IsOutside m) (sym c.outside.ensures) (refl, refl)

pub returns-in-Ok-clause-ends : goal.returns-in-Ok-clause-ends
returns-in-Ok-clause-ends g c = subst (λ (m : Machine). IsHistory (kept_part m.state)) (sym c.outside.ensures) c.in-Ok.ensures.ends

pub returns-in-Ok-clause-admitted : goal.returns-in-Ok-clause-admitted
returns-in-Ok-clause-admitted g c =
    subst (λ (m : Machine). IsWithin (ranges c.args.bits.now c.args.commits.now) (kept_part m.state)) (sym c.outside.ensures) c.in-Ok.ensures.admitted

pub returns-in-Ok-clause-again : goal.returns-in-Ok-clause-again
returns-in-Ok-clause-again g c = λ kept rest has ends is.
    subst (λ (m : Machine). (kept_part m.state ≡ kept) × (c.read_history.new.from.now ≡ rest)) (sym c.outside.ensures) (c.in-Ok.ensures.again kept rest has ends is)

pub returns-in-Ok-clause-header : goal.returns-in-Ok-clause-header
returns-in-Ok-clause-header g c = λ few. not_error _ _ _ _ refl (c.in-Ok.ensures.header few)

pub returns-in-Ok-clause-cut : goal.returns-in-Ok-clause-cut
returns-in-Ok-clause-cut g c = λ kept m has within header fewer is. not_cut _ _ _ refl (c.in-Ok.ensures.cut kept m has within header fewer is)

pub returns-in-Err-clause-header : goal.returns-in-Err-clause-header
returns-in-Err-clause-header g c = λ few. error_same _ _ _ _ refl refl (c.in-Err.ensures.header few)

pub returns-in-Err-clause-cut : goal.returns-in-Err-clause-cut
returns-in-Err-clause-cut g c = λ kept m has within header fewer is. cut_same _ _ _ refl refl (c.in-Err.ensures.cut kept m has within header fewer is)

pub returns-in-Err-clause-complete : goal.returns-in-Err-clause-complete
returns-in-Err-clause-complete g c = c.in-Err.ensures.complete

pub returns-in-Err-clause-error : goal.returns-in-Err-clause-error
returns-in-Err-clause-error g c = c.in-Err.ensures.error
