use Rattle.bitmap_core.proofs.Pruned.Codec.{pruned_acceptable}
use Rattle.bitmap_core.proofs.laws.codec.pruned_bits_are_accepted_where_encoded.Goals as goal

pub returns : goal.returns
returns c = pruned_acceptable
