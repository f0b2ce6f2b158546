use Rattle.std.proofs.Common.{◌+◌, ◌∙◌, ap, sym, subst}
use Rattle.std.specs.Prelude.{is_some, not}
use Rattle.historical_bitmap.specs.Pending.{AreMissing}
use Rattle.historical_bitmap.proofs.EditedChunks.Appended.{copied_some, none_of}
use Rattle.historical_bitmap.proofs.EditedChunks.ManyChunks.{none_missing, not_missing, one_missing}
use Rattle.historical_bitmap.proofs.bitmap.historical.ranges.missing.Goals as goal
use Rattle.historical_bitmap.proofs.bitmap.historical.ranges.missing.Goals.{then-is_none+in_ok-push, else-is_none}

pub loop-index-init : goal.loop-index-init
loop-index-init g c = subst (λ xs. AreMissing c.args.chunks.now c.args.first c.args.first xs) (sym c.new-indices.ensures.items) (none_missing c.args.chunks.now c.args.first)

pub loop-index-preserved : goal.loop-index-preserved
loop-index-preserved g c =
    let es = c.args.chunks.now in
    let first = c.args.first in
    let at = c.loop-index.index in
    let found = ap is_some (sym c.get.ensures.value) ∙ (copied_some c.get.result ∙ c.is_none.ensures) in
    elim c.if-is_none.branch [
      | then-is_none+in_ok-push w ↦ subst (λ xs. AreMissing es first (at + 1) xs) (sym (ap (λ v. v.items) w.indices-is ∙ w.in_ok-push.ensures.items))
          (one_missing es first at c.loop-index.indices.items c.loop-index.auto.index (none_of _ (found ∙ ap not w.if-is_none.true)) c.loop-index.invariant)
      | else-is_none w ↦ subst (λ v. AreMissing es first (at + 1) v.items) (sym w.indices-is)
          (not_missing es first at c.loop-index.indices.items (found ∙ ap not w.if-is_none.false) c.loop-index.invariant)
    ]
