-- Empty handles into which bytes are read.
use Rattle.std.proofs.Common.{◌≡◌, ℕ, true, false, Option, Some, None, refl, sym}
use Rattle.std.specs.Prelude.{is_some}
use Rattle.std.proofs.lemmas.Bool.{false≢true}
use Rattle.bitmap_c.specs.declared.any.AnySession.{AnySession}
use Rattle.bitmap_c.specs.Saved.{IntoEmpty}
use Rattle.bitmap_c.specs.Widths.{is_width}

-- an empty handle, at a width
pub into_empty : (old : Option AnySession) (n status old_number number : ℕ) (new : Option AnySession) (Reads : Type 0)
    → is_some old ≡ false
    → is_width n ≡ true
    → (old ≡ None → Reads)
    → IntoEmpty old n status old_number number new Reads
into_empty None n status old_number number new Reads empty offered reads = rw offered (reads refl)
into_empty (Some old) n status old_number number new Reads full offered reads = absurd (false≢true (sym full))
