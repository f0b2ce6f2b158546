use Rattle.std.proofs.Common.{refl, arith}
use Rattle.bitmap_core.proofs.Slices.{ones_within, wanted_set, wanted_unset}
use Rattle.bitmap_core.proofs.bitmap.readable.blocks.wanted_in.Goals as goal

pub count_ones-ones-requires : goal.count_ones-ones-requires
count_ones-ones-requires g c =
    omega (arith, c.requires.fits, ones_within g.row.N _ _ c.args.wanted _ c.requires.width.positive c.all_known.ensures c.as_flattened.ensures.value refl)

pub overflow_sub-result : goal.overflow_sub-result
overflow_sub-result g c =
    ones_within g.row.N _ _ c.args.wanted _ c.requires.width.positive c.all_known.ensures c.as_flattened.ensures.value c.count_ones-ones.ensures

pub returns-then-wanted : goal.returns-then-wanted
returns-then-wanted g c =
    wanted_set g.row.N _ _ c.args.wanted _ c.requires.width.positive c.all_known.ensures c.as_flattened.ensures.value c.count_ones-ones.ensures c.if-wanted.true

pub returns-else-wanted : goal.returns-else-wanted
returns-else-wanted g c =
    wanted_unset g.row.N _ _ c.args.wanted _ c.requires.width.positive c.all_known.ensures c.as_flattened.ensures.value c.count_ones-ones.ensures c.if-wanted.false
