use Rattle.std.proofs.Common.{◌+◌, ◌*◌, ◌/◌, length, ap, ◌∙◌, subst, arith}
use Rattle.std.proofs.lemmas.Bool.{false≢true}
use Rattle.std.specs.Int.{div_ceil}
use Rattle.bitmap_core.specs.PrunedBits.{chunk, truncated}
use Rattle.historical_bitmap.specs.Lengths.{JoinsChunks}
use Rattle.historical_bitmap.proofs.Pending.Lengthened.{bits_appended, each_edited}
use Rattle.historical_bitmap.proofs.bitmap.historical.pending.Dirty.extend_from_bitmap.Goals as goal

pub returns-in_err-append_bits-clause-edited : goal.returns-in_err-append_bits-clause-edited
returns-in_err-append_bits-clause-edited g c =
    let at = c.len-len.ensures.value in
    λ all. absurd (false≢true (c.in_err-append_bits.ensures.edited (λ q low high.
    rw (c.settle.ensures.value ∙ ap (λ l. l.edited) c.self.view_is) (each_edited g.row.N c.args.self.now (c.args.self.now.len + length c.args.other.now) c.len-len.ensures.width.positive (omega (arith, c.requires.some)) all q (rw at at low) (rw at at high)))))

pub returns-clause-ok : goal.returns-clause-ok
returns-clause-ok g c =
    let v = c.self.view_is in
    let joined : JoinsChunks g.row.N (chunk g.row.N (truncated g.row.N c.args.current.now c.args.self.now.len)) c.args.self.now.edited c.append_bits.new.chunks (c.args.self.now.len / (8 * g.row.N)) (div_ceil (c.args.self.now.len + length c.args.other.now) (8 * g.row.N)) c.args.self.now.len c.args.other.now =
    subst (λ es. JoinsChunks g.row.N (chunk g.row.N (truncated g.row.N c.args.current.now c.args.self.now.len)) es c.append_bits.new.chunks (c.args.self.now.len / (8 * g.row.N)) (div_ceil (c.args.self.now.len + length c.args.other.now) (8 * g.row.N)) c.args.self.now.len c.args.other.now)
    (c.settle.ensures.value ∙ ap (λ l. l.edited) v) (rw c.len-len.ensures.value at c.in_ok-append_bits.ensures.ok) in
    rw c.settle.ensures.chunk (bits_appended g.row.N c.args.current.now c.args.self.now _ c.args.other.now c.len-len.ensures.width.positive (omega (arith, c.len-len.ensures.value, c.len.ensures.value)) (ap (λ l. l.pruned) v) (ap (λ l. l.captured) v) joined)
