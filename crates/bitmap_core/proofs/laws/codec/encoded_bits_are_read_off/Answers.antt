use Rattle.bitmap_core.proofs.Codec.Encodings.{bits_in_encoded}
use Rattle.bitmap_core.proofs.laws.codec.encoded_bits_are_read_off.Goals as goal

pub returns : goal.returns
returns c = bits_in_encoded
