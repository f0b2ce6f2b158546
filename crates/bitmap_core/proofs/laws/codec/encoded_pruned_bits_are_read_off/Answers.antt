use Rattle.bitmap_core.proofs.Pruned.Codec.{pruned_in_encoded}
use Rattle.bitmap_core.proofs.laws.codec.encoded_pruned_bits_are_read_off.Goals as goal

pub returns : goal.returns
returns c = pruned_in_encoded
