use Rattle.std.proofs.Common.{arith, sym, subst}
use Rattle.bitmap_core.specs.PrunedBits.{PrunedBits}
use Rattle.commit_log.specs.Accepted.{HasExtent}
use Rattle.commit_log.specs.Entries.{view_change}
use Rattle.commit_log.proofs.Canonical.{accepted_ascends}
use Rattle.commit_log.proofs.apply.apply_accepted.Goals as goal

pub edit_all-requires : goal.edit_all-requires
edit_all-requires g c =
    let n = g.row.N in
    let accepted = c.requires.accepted in
    let change = view_change n c.args.change.now in
    let extent = subst (λ (b : PrunedBits). HasExtent n b change) (sym c.into_dirty-batch.ensures.pending) accepted.1.extent in
    (omega arith, (omega arith, (extent, accepted_ascends n c.args.bitmap.current change c.len.ensures.width.positive accepted.1)))
