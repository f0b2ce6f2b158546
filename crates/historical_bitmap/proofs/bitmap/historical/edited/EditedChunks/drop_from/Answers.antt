use Rattle.std.proofs.Common.{◌≡◌, ◌-◌, take, ap, sym, ◌∙◌}
use Rattle.historical_bitmap.proofs.EditedChunks.Appended.{all_sorted}
use Rattle.historical_bitmap.proofs.EditedChunks.CutChunks.{appended_dropped, dropped_keeps}
use Rattle.historical_bitmap.proofs.bitmap.historical.edited.EditedChunks.drop_from.Goals as goal

pub invariant_of-self : goal.invariant_of-self
invariant_of-self g c =
    let first = c.self.inside.first in
    let xs = c.self.inside.appended.items in
    let es = c.self.inside.stored.entries in
    let gs = c.remove_from.new.chunks.entries in
    let items : c.truncate.new.self.items ≡ take (c.args.from - first) xs = c.truncate.ensures.items ∙ ap (λ k. take k xs) c.saturating_sub.ensures in
    rw items (dropped_keeps g.row.N first c.args.from xs es gs c.remove_from.ensures c.self.invariant)

pub returns-clause-dropped : goal.returns-clause-dropped
returns-clause-dropped g c =
    let first = c.self.inside.first in
    let xs = c.self.inside.appended.items in
    let es = c.self.inside.stored.entries in
    let gs = c.remove_from.new.chunks.entries in
    let items : c.truncate.new.self.items ≡ take (c.args.from - first) xs = c.truncate.ensures.items ∙ ap (λ k. take k xs) c.saturating_sub.ensures in
    rw (sym c.self.view_is, items) (appended_dropped g.row.N first c.args.from xs es gs c.remove_from.ensures)

pub returns-clause-sorted : goal.returns-clause-sorted
returns-clause-sorted g c =
    let first = c.self.inside.first in
    let xs = c.self.inside.appended.items in
    let es = c.self.inside.stored.entries in
    let gs = c.remove_from.new.chunks.entries in
    let items : c.truncate.new.self.items ≡ take (c.args.from - first) xs = c.truncate.ensures.items ∙ ap (λ k. take k xs) c.saturating_sub.ensures in
    rw items (all_sorted g.row.N first (take (c.args.from - first) xs) gs (dropped_keeps g.row.N first c.args.from xs es gs c.remove_from.ensures c.self.invariant) c.order.ensures.sorted)
