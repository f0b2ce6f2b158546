use Rattle.std.proofs.Common.{◌≡◌, ℕ, ◌*◌, ◌≤◌, ap, arith, subst, sym, ◌∙◌}
use Rattle.std.specs.Prelude.{nat_le}
use Rattle.std.specs.List.{filter}
use Rattle.bitmap_core.specs.PrunedBits.{unpruned}
use Rattle.historical_bitmap.specs.Undo.{pruned_chunk_bytes, put_back, resized}
use Rattle.historical_bitmap.proofs.Records.UndoneInSteps.{steps_are, whole_pruned}
use Rattle.historical_bitmap.proofs.bitmap.historical.undo.undo_in_steps.Goals as goal

pub resize-requires : goal.resize-requires
resize-requires g c =
    let pos = c.len.ensures.width.positive in
    let pruned : c.restore_front.new.newer.pruned ≡ c.args.diff.now.pruned =
    ap (λ b. b.pruned) c.in_ok-restore_front.ensures ∙ whole_pruned g.row.N c.args.diff.now c.args.newer.now pos c.requires.undo.rises c.requires.undo.fits c.requires.undo.pruned in
    let fits : 8 * g.row.N * c.args.diff.now.pruned ≤ c.len.result = omega (arith, c.requires.undo.fits, c.len.ensures.value) in
    (omega arith, subst (λ (p : ℕ). 8 * g.row.N * p ≤ c.len.result) (sym pruned) fits)

pub returns : goal.returns
returns g c =
    let whole = unpruned g.row.N c.args.newer.now (pruned_chunk_bytes c.args.diff.now c.args.newer.now.pruned) in
    let sized : c.resize.new.bitmap ≡ resized g.row.N whole c.args.diff.now.len =
    c.in_ok-resize.ensures
    ∙ (ap (λ b. resized g.row.N b c.len.result) c.in_ok-restore_front.ensures
    ∙ ap (resized g.row.N whole) c.len.ensures.value) in
    c.put_back_from.ensures
    ∙ (ap (λ es. put_back g.row.N c.resize.new.bitmap (filter (λ e. nat_le c.pruned_chunks-pruned.result e.0) es)) c.chunk_diffs.ensures
    ∙ (ap (λ p. put_back g.row.N c.resize.new.bitmap (filter (λ e. nat_le p e.0) c.args.diff.now.entries)) c.pruned_chunks-pruned.ensures
    ∙ (ap (λ b. put_back g.row.N b (filter (λ e. nat_le c.args.newer.now.pruned e.0) c.args.diff.now.entries)) sized
    ∙ steps_are g.row.N c.args.diff.now c.args.newer.now c.len.ensures.width.positive c.requires.undo)))
