use Rattle.std.proofs.Common.{◌<◌, length, arith, ◌∙◌, sym}
use Rattle.std.proofs.lemmas.List.{length-set}
use Rattle.bitmap_bytes.proofs.Lists.Bits.{len_is, length-bits}
use Rattle.bitmap_core.proofs.Chunks.Whole.{chunk_within, IsZeroFrom-replaced, get_or-replaced}
use Rattle.bitmap_core.proofs.bitmap.BitMap.replace_chunk.Goals as goal

pub set_chunk-requires : goal.set_chunk-requires
set_chunk-requires g c =
    (omega (arith, c.self.invariant.width.fits), chunk_within _ _ _ _ (omega (arith, len_is _ _ _ _ c.self.view_is)) c.self.invariant.count)

pub invariant_of-self : goal.invariant_of-self
invariant_of-self g c =
    let cached = c.self.invariant in
    let l = len_is _ _ _ _ c.self.view_is in
    let w : c.args.index < length c.self.inside.chunks.items = chunk_within _ _ _ _ (omega arith) cached.count in
    rw c.set_chunk.ensures (record {
      width = cached.width;
      count = rw length-set cached.count;
      zero = IsZeroFrom-replaced _ _ _ _ _ w (λ k h. c.requires.zero k (omega arith)) cached.zero;
    })

pub returns-clause-len : goal.returns-clause-len
returns-clause-len g c = length-bits _ _ _ ∙ sym (len_is _ _ _ _ c.self.view_is)

pub returns-clause-bits : goal.returns-clause-bits
returns-clause-bits g c =
    let l = len_is _ _ _ _ c.self.view_is in
    let w : c.args.index < length c.self.inside.chunks.items = chunk_within _ _ _ _ (omega arith) c.self.invariant.count in
    λ k h. rw c.set_chunk.ensures (get_or-replaced _ _ _ _ _ _ k w c.self.view_is h)
