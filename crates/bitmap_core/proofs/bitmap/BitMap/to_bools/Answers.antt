use Rattle.std.proofs.Common.{◌∙◌, sym}
use Rattle.std.proofs.lemmas.Bool.{false≢true}
use Rattle.bitmap_bytes.proofs.Lists.Bits.{len_is}
use Rattle.bitmap_core.proofs.bitmap.BitMap.to_bools.Goals as goal

pub returns-in_err-bools-clause-none : goal.returns-in_err-bools-clause-none
returns-in_err-bools-clause-none g c = λ h. absurd (false≢true (c.in_err-bools.ensures.succeeds (sym (len_is _ _ _ _ c.self.view_is) ∙ h)))
