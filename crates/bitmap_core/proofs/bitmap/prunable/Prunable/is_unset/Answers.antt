use Rattle.std.proofs.Common.{◌≡◌, ℕ, ◌-◌, ◌≤◌, ◌∙◌, not, ap, subst, sym}
use Rattle.std.specs.List.{list_all, range_with_len, slice_range}
use Rattle.bitmap_core.specs.PrunedBits.{PrunedBits, pruned_bits, bit_at, bit_len}
use Rattle.bitmap_core.proofs.Pruned.Ranges.{none_retained}
use Rattle.bitmap_core.proofs.bitmap.prunable.Prunable.is_unset.Goals as goal

pub returns : goal.returns
returns g c =
    let b : PrunedBits = record { pruned = c.self.inside.pruned_chunks; bits = c.self.inside.bitmap } in
    let first : ℕ = c.args.range.start in
    let end : ℕ = c.args.range.end in
    let p : c.pruned_bits-pruned.result ≡ pruned_bits g.row.N b = c.pruned_bits-pruned.ensures ∙ ap (λ v. pruned_bits g.row.N v) (sym c.self.view_is) in
    let from : pruned_bits g.row.N b ≤ first = subst (λ v. pruned_bits g.row.N v ≤ first) (sym c.self.view_is) c.requires.from in
    let to : end ≤ bit_len g.row.N b = subst (λ v. end ≤ bit_len g.row.N v) (sym c.self.view_is) c.requires.to in
    c.is_unset.ensures
    ∙ ap (λ k. list_all not (slice_range b.bits (first - k) c.saturating_sub.result)) p
    ∙ ap (λ k. list_all not (slice_range b.bits (first - pruned_bits g.row.N b) k)) (c.saturating_sub.ensures ∙ ap (λ k. end - k) p)
    ∙ none_retained g.row.N b first end from to
    ∙ ap (λ v. list_all (λ k. not (bit_at g.row.N v k)) (range_with_len first (end - first))) c.self.view_is
