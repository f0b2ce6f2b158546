use Rattle.std.proofs.Common.{◌∙◌, sym}
use Rattle.bitmap_core.proofs.Counting.JoinedChunks.{cut_is, cut_within, none_right, some_in_left}
use Rattle.bitmap_core.proofs.bitmap.deque.counts.is_unset.Goals as goal

pub is_unset-requires-then-is_unset : goal.is_unset-requires-then-is_unset
is_unset-requires-then-is_unset g c =
    let b = c.bytes.ensures in
    let cut = cut_is _ _ _ _ _ _ c.requires.positive b.known b.items c.saturating_mul-split.ensures c.requires.within c.ranges.to.fits in
    rw c.max-then-is_unset.ensures (cut_within _ _ _ _ _ _ cut).1

pub returns-then-is_unset : goal.returns-then-is_unset
returns-then-is_unset g c =
    let b = c.bytes.ensures in
    let cut = cut_is _ _ _ _ _ _ c.requires.positive b.known b.items c.saturating_mul-split.ensures c.requires.within c.ranges.to.fits in
    let first_unset = rw (c.min.ensures, c.min-2.ensures) at (sym c.is_unset.ensures ∙ c.if-is_unset.true) in
    c.is_unset-then-is_unset.ensures
    ∙ rw (c.max.ensures, c.max-then-is_unset.ensures) (none_right _ _ _ _ _ c.args.from _ cut first_unset)

pub returns-else-is_unset : goal.returns-else-is_unset
returns-else-is_unset g c =
    let b = c.bytes.ensures in
    let cut = cut_is _ _ _ _ _ _ c.requires.positive b.known b.items c.saturating_mul-split.ensures c.requires.within c.ranges.to.fits in
    let first_set = rw (c.min.ensures, c.min-2.ensures) at (sym c.is_unset.ensures ∙ c.if-is_unset.false) in
    c.if-is_unset.false ∙ sym (some_in_left _ _ _ _ _ c.args.from _ cut first_set)
