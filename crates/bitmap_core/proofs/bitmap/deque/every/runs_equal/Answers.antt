use Rattle.std.proofs.Common.{◌≡◌, ◌∙◌, ◌++◌, sym, arith}
use Rattle.std.specs.Bool.{Decides}
use Rattle.std.proofs.lemmas.Bool.{false≢true}
use Rattle.bitmap_core.proofs.Chunks.Equal.{runs_same, runs_joined, parts_of}
use Rattle.bitmap_core.proofs.bitmap.deque.every.runs_equal.Goals as goal
use Rattle.bitmap_core.proofs.bitmap.deque.every.runs_equal.Goals.{then-slices_equal, else-slices_equal}

pub returns-then-slices_equal-2 : goal.returns-then-slices_equal-2
returns-then-slices_equal-2 g c =
    let low = c.split_at.result.0.now in
    let high = c.split_at.result.1.now in
    let near = c.split_at-2.result.0.now in
    let far = c.split_at-2.result.1.now in
    let a : c.args.longer.now ≡ low ++ high =
    parts_of _ _ _ _ c.split_at.ensures.front c.split_at.ensures.back in
    let b : c.args.back.now ≡ near ++ far =
    parts_of _ _ _ _ c.split_at-2.ensures.front c.split_at-2.ensures.back in
    let d : Decides c.slices_equal-then-slices_equal-2.result (far ≡ c.args.rest.now) =
    c.slices_equal-then-slices_equal-2.ensures in
    elim c.if-slices_equal.branch [
      | then-slices_equal w ↦
          let joins : near ≡ high =
          w.slices_equal-then-slices_equal.ensures.0 (sym w.value-is ∙ c.if-slices_equal-2.true) in (
            λ q.
                let begins = c.slices_equal.ensures.0 w.if-slices_equal.true in
                runs_joined c.args.front.now _ _ c.args.rest.now low high near far a b begins joins (d.0 q),
            λ e. d.1 (runs_same c.args.front.now _ _ c.args.rest.now low high near far a b (omega arith) (omega arith) e).2,
          )
      | else-slices_equal w ↦ absurd (false≢true (sym w.if-slices_equal.false ∙ sym w.value-is ∙ c.if-slices_equal-2.true))
    ]

pub returns-else-slices_equal-2 : goal.returns-else-slices_equal-2
returns-else-slices_equal-2 g c =
    let low = c.split_at.result.0.now in
    let high = c.split_at.result.1.now in
    let near = c.split_at-2.result.0.now in
    let far = c.split_at-2.result.1.now in
    let a : c.args.longer.now ≡ low ++ high =
    parts_of _ _ _ _ c.split_at.ensures.front c.split_at.ensures.back in
    let b : c.args.back.now ≡ near ++ far =
    parts_of _ _ _ _ c.split_at-2.ensures.front c.split_at-2.ensures.back in (
      λ q. absurd (false≢true (sym c.if-slices_equal-2.false ∙ q)),
      λ e.
          let s = runs_same c.args.front.now _ _ c.args.rest.now low high near far a b (omega arith) (omega arith) e in
          elim c.if-slices_equal.branch [
            | then-slices_equal w ↦ w.value-is ∙ w.slices_equal-then-slices_equal.ensures.1 s.1
            | else-slices_equal w ↦ absurd (false≢true (sym w.if-slices_equal.false ∙ c.slices_equal.ensures.1 s.0))
          ],
    )
