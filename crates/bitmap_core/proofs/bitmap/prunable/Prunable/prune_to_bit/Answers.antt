use Rattle.std.proofs.Common.{◌+◌, ◌*◌, ◌≤◌, length, ap, subst, sym, arith}
use Rattle.std.proofs.lemmas.List.{length-drop}
use Rattle.std.proofs.Math.Nat.{div-add-mod}
use Rattle.bitmap_core.specs.PrunedBits.{bit_len}
use Rattle.bitmap_core.proofs.Pruned.Positions.{front_of}
use Rattle.bitmap_core.proofs.bitmap.prunable.Prunable.prune_to_bit.Goals as goal

pub invariant_of-self : goal.invariant_of-self
invariant_of-self g c =
    let cached = c.self.invariant in
    let l : c.args.bit ≤ 8 * g.row.N * c.self.inside.pruned_chunks + length c.self.inside.bitmap =
    subst (λ b. c.args.bit ≤ bit_len g.row.N b) (sym c.self.view_is) c.requires in
    let f = front_of (8 * g.row.N) c.self.inside.pruned_chunks c.to_chunk_index-index.result (omega arith) in
    rw c.drop_front_chunks.ensures (record {
      width = cached.width;
      len = rw length-drop
          (omega (arith, f, cached.len, ap (λ x. 8 * g.row.N * x) c.to_chunk_index-index.ensures, div-add-mod c.args.bit (8 * g.row.N)));
    })
