use Rattle.bitmap_core.proofs.Pruned.Positions.{same_from_bits}
use Rattle.bitmap_core.proofs.laws.prunable.fixed_by_positions.Goals as goal

pub returns : goal.returns
returns c = same_from_bits
