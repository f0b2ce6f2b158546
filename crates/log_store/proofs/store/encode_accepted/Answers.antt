use Rattle.std.proofs.Common.{◌≡◌, None, Option, ℕ, ap, sym, ◌∙◌, arith}
use Rattle.historical_bitmap.specs.View.{commit_error, pending_of}
use Rattle.commit_log.proofs.Fits.{change_fits}
use Rattle.commit_log.proofs.Following.{change_follows}
use Rattle.log_store.proofs.store.encode_accepted.Goals as goal

pub returns-in-Ok-clause-fits : goal.returns-in-Ok-clause-fits
returns-in-Ok-clause-fits g c =
    let n = g.row.N in
    let b = c.args.batch.now in
    change_fits n c.args.number b.current (pending_of n b) c.len.ensures.width.positive c.len.ensures.bound (omega (arith, c.ranges.number.fits))

pub returns-in-Ok-clause-accepted : goal.returns-in-Ok-clause-accepted
returns-in-Ok-clause-accepted g c =
    let n = g.row.N in
    let b = c.args.batch.now in
    let free : commit_error b.last c.args.number ≡ None = ap (λ (last : Option ℕ). commit_error last c.args.number) (sym c.last_number.ensures) ∙ sym c.in_default.ensures in
    (free, change_follows n c.args.number b.current (pending_of n b) c.len.ensures.width.positive (omega (arith, c.newly_pruned_chunks.ensures)))
