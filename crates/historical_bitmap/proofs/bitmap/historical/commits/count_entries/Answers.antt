use Rattle.std.proofs.Common.{◌≡◌, ℕ, length, get_or, ap, arith}
use Rattle.std.proofs.lemmas.List.Sums.{sum_by_more}
use Rattle.std.proofs.lemmas.Option.{get_or_from_slice_get, slice_get_within}
use Rattle.historical_bitmap.specs.Record.{ReverseRecord}
use Rattle.historical_bitmap.proofs.bitmap.historical.commits.count_entries.Goals as goal

pub loop-position-preserved : goal.loop-position-preserved
loop-position-preserved g c =
    let cs = c.args.commits.now in
    let i = c.loop-position.position in
    let e : ℕ × ReverseRecord = (c.commit.result.0, c.commit.result.1.now) in
    let here : length (get_or cs i e).1.entries ≡ length e.1.entries = ap (λ x. length x.1.entries) (get_or_from_slice_get cs i e e c.commit.ensures) in
    let more = sum_by_more (λ commit. length commit.1.entries) cs i e (slice_get_within cs i e c.commit.ensures) in
    (omega (arith, more, here, c.loop-position.invariant.0, c.entries.ensures), omega (arith, c.loop-position.invariant.1, c.entries.type_inv))
