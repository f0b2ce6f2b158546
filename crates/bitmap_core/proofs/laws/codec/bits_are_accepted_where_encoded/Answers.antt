use Rattle.bitmap_core.proofs.Codec.DecodeErrors.{bits_acceptable}
use Rattle.bitmap_core.proofs.laws.codec.bits_are_accepted_where_encoded.Goals as goal

pub returns : goal.returns
returns c = bits_acceptable
