use Rattle.std.proofs.Common.{◌≤◌, length, arith, subst, sym}
use Rattle.bitmap_core.specs.PrunedBits.{PrunedBits}
use Rattle.bitmap_core.proofs.Pruned.Edits.{len_unpruned}
use Rattle.bitmap_core.proofs.bitmap.prunable.Prunable.unprune.Goals as goal

pub invariant_of-self-2 : goal.invariant_of-self-2
invariant_of-self-2 g c =
    let cached = c.self.invariant in
    let b : PrunedBits = record { pruned = c.self.inside.pruned_chunks; bits = c.self.inside.bitmap } in
    let fits : length c.args.chunks.now ≤ c.self.inside.pruned_chunks =
    subst (λ b. length c.args.chunks.now ≤ b.pruned) (sym c.self.view_is) c.requires in
    rw c.in_ok-put_front_chunks.ensures.ok (record { width = cached.width; len = omega (arith, len_unpruned _ b _ cached.width.positive fits, cached.len) })
