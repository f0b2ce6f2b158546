use Rattle.std.proofs.Common.{◌∙◌, sym, arith}
use Rattle.std.proofs.lemmas.List.{length-append}
use Rattle.bitmap_core.proofs.Lists.WholeBits.{joined_runs}
use Rattle.bitmap_core.proofs.bitmap.deque.every.combine.Goals as goal

pub returns : goal.returns
returns g c =
    let head = c.split_at_mut-head.ensures in
    let a = sym c.make_contiguous.ensures.value ∙ head.value in
    let l = length-append c.combine_slices.new.chunks c.combine_slices-2.new.chunks in
    let r = c.make_contiguous.ensures.writes_back _
    (omega (arith, l, c.combine_slices.ensures.count, c.combine_slices-2.ensures.count, head.back_len, head.front_len, c.make_contiguous.ensures.len)) in
    joined_runs _ _ _ _ _ _ _ _ _ _ _ a c.as_slices.ensures.items r head.front_len c.combine_slices.ensures c.combine_slices-2.ensures
