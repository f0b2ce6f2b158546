use Rattle.std.proofs.Common.{◌≡◌, ◌-◌, ◌*◌, ◌∙◌, length, ap, sym, arith}
use Rattle.bitmap_bytes.specs.Chunk.{bytes_bit}
use Rattle.std.specs.Int.{div_ceil}
use Rattle.std.proofs.lemmas.Bool.{false≢true}
use Rattle.bitmap_bytes.proofs.Chunks.Places.{IsChunkCount-ceil, count_unique}
use Rattle.bitmap_bytes.proofs.Lists.Bits.{len_is}
use Rattle.bitmap_core.proofs.Lists.Edits.{bits-append}
use Rattle.bitmap_bytes.proofs.Chunks.Lists.{IsZeroFrom-append}
use Rattle.bitmap_bytes.proofs.Bytes.Shifted.{bytes_bit-flat}
use Rattle.bitmap_core.proofs.bitmap.BitMap.extend_from_bitmap.Goals as goal

pub overflow_add-total : goal.overflow_add-total
overflow_add-total g c = omega (arith, len_is _ _ _ _ c.self.view_is, c.len.ensures.value)

pub invariant_of-self-2 : goal.invariant_of-self-2
invariant_of-self-2 g c =
    let cached = c.self.invariant in
    let appended = c.in_ok-append_run.ensures in
    let o : c.len.result ≡ c.other.inside.len = c.len.ensures.value ∙ len_is _ _ _ _ c.other.view_is in
    (record {
      width = cached.width;
      count = appended.count;
      zero = IsZeroFrom-append _ _ _ _ _ _ (λ i h. c.other.invariant.zero i (omega arith)) (λ i h s.
          appended.joined i h s
          ∙ ap (λ r. bytes_bit r (i - c.self.inside.len)) c.bytes.ensures.items
          ∙ bytes_bit-flat _ _ c.other.invariant.width.positive (λ j l. (c.bytes.ensures.known j l).len) (i - c.self.inside.len));
    })

pub returns-clause-ok : goal.returns-clause-ok
returns-clause-ok g c =
    let cached = c.self.invariant in
    let appended = c.in_ok-append_run.ensures in
    let o : c.other.inside.len ≡ c.len.result = sym (c.len.ensures.value ∙ len_is _ _ _ _ c.other.view_is) in
    bits-append _ _ _ _ _ _ _ _ _ cached.width.positive appended.count c.self.view_is (rw o at c.other.view_is) appended.kept (λ i h s.
    appended.joined i h s
    ∙ ap (λ r. bytes_bit r (i - c.self.inside.len)) c.bytes.ensures.items
    ∙ bytes_bit-flat _ _ c.other.invariant.width.positive (λ j l. (c.bytes.ensures.known j l).len) (i - c.self.inside.len))

pub returns-in_err-append_run-clause-has_capacity : goal.returns-in_err-append_run-clause-has_capacity
returns-in_err-append_run-clause-has_capacity g c =
    let e : div_ceil c.self.inside.len (8 * g.row.N) ≡ length c.self.inside.chunks.items =
    count_unique _ _ _ _ (IsChunkCount-ceil _ _ c.self.invariant.width.positive) c.self.invariant.count in
    λ h. absurd (false≢true (c.in_err-append_run.ensures.has_capacity (rw (← c.len.ensures.value, len_is _ _ _ _ c.self.view_is, e) at h)))
