use Rattle.std.proofs.Common.{ap, ◌∙◌, not, map}
use Rattle.bitmap_core.proofs.Lists.BitByBit.{map-not-twice}
use Rattle.bitmap_core.proofs.laws.whole.flip_all_twice.Goals as goal

pub returns-clause-same : goal.returns-clause-same
returns-clause-same g c = c.flip_all-2.ensures ∙ ap (map not) c.flip_all.ensures ∙ map-not-twice _

pub returns-clause-inverse : goal.returns-clause-inverse
returns-clause-inverse g c = map-not-twice
