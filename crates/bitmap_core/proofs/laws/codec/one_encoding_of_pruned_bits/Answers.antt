use Rattle.bitmap_core.proofs.Pruned.Codec.{same_pruned_encoding}
use Rattle.bitmap_core.proofs.laws.codec.one_encoding_of_pruned_bits.Goals as goal

pub returns : goal.returns
returns c = same_pruned_encoding
