use Rattle.std.proofs.Common.{◌≡◌, ◌-◌, ◌≤◌, ◌∙◌, ap, subst, sym}
use Rattle.bitmap_core.specs.PrunedBits.{PrunedBits, pruned_bits, set_range}
use Rattle.bitmap_core.specs.Ranges.{set_between}
use Rattle.bitmap_core.proofs.Pruned.Ranges.{retained_set, len_set_range}
use Rattle.bitmap_core.proofs.bitmap.prunable.Prunable.set_range.Goals as goal

pub invariant_of-self : goal.invariant_of-self
invariant_of-self g c =
    let own = c.self.invariant in
    rw c.set_range.ensures (record { width = own.width; len = rw (len_set_range g.row.N c.self.inside.bitmap) own.len })

pub returns : goal.returns
returns g c =
    let b : PrunedBits = record { pruned = c.self.inside.pruned_chunks; bits = c.self.inside.bitmap } in
    let p : c.pruned_bits-pruned.result ≡ pruned_bits g.row.N b = c.pruned_bits-pruned.ensures ∙ ap (λ v. pruned_bits g.row.N v) (sym c.self.view_is) in
    let from : pruned_bits g.row.N b ≤ c.args.range.start = subst (λ v. pruned_bits g.row.N v ≤ c.args.range.start) (sym c.self.view_is) c.requires.from in
    ap (λ v. record { pruned = c.self.inside.pruned_chunks; bits = v })
    (c.set_range.ensures
    ∙ ap (λ k. set_between b.bits (c.args.range.start - k) c.saturating_sub.result c.args.value) p
    ∙ ap (λ k. set_between b.bits (c.args.range.start - pruned_bits g.row.N b) k c.args.value) (c.saturating_sub.ensures ∙ ap (λ k. c.args.range.end - k) p))
    ∙ retained_set g.row.N b c.args.range.start c.args.range.end c.args.value from
    ∙ ap (λ v. set_range g.row.N v c.args.range.start c.args.range.end c.args.value) c.self.view_is
