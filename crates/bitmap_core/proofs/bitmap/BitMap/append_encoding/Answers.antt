use Rattle.std.proofs.Common.{sym, arith}
use Rattle.bitmap_bytes.proofs.Lists.Bits.{len_is}
use Rattle.bitmap_bytes.proofs.Chunks.AsBytes.{slices_are}
use Rattle.bitmap_core.proofs.Codec.Encodings.{length-encoding}
use Rattle.bitmap_core.proofs.Codec.Parts.{encoding_pieces, written}
use Rattle.bitmap_core.proofs.bitmap.BitMap.append_encoding.Goals as goal

pub unwrap-requires : goal.unwrap-requires
unwrap-requires g c =
    let length = length-encoding g.row.N c.args.self.now in
    let eight = c.to_be_bytes.ensures in
    c.extend_from_slice.ensures.succeeds (grind arith)

pub unwrap-requires-2 : goal.unwrap-requires-2
unwrap-requires-2 g c =
    let i = c.self.invariant in
    let s = c.slices.ensures in
    let pieces = slices_are _ _ c.slices.result.0.now c.slices.result.1.now _ _ i.width.positive i.count i.zero c.self.view_is s.known s.items in
    let parts = encoding_pieces _ c.slices.result.0.now c.slices.result.1.now _ pieces in
    c.extend_from_slice-2.ensures.succeeds (grind arith)

pub unwrap-requires-3 : goal.unwrap-requires-3
unwrap-requires-3 g c =
    let i = c.self.invariant in
    let s = c.slices.ensures in
    let pieces = slices_are _ _ c.slices.result.0.now c.slices.result.1.now _ _ i.width.positive i.count i.zero c.self.view_is s.known s.items in
    let parts = encoding_pieces _ c.slices.result.0.now c.slices.result.1.now _ pieces in
    c.extend_from_slice-3.ensures.succeeds (grind arith)

pub returns : goal.returns
returns g c =
    let i = c.self.invariant in
    let s = c.slices.ensures in
    let pieces = slices_are _ _ c.slices.result.0.now c.slices.result.1.now _ _ i.width.positive i.count i.zero c.self.view_is s.known s.items in
    rw (
      c.extend_from_slice-3.ensures.items,
      c.unwrap-3.ensures,
      c.extend_from_slice-2.ensures.items,
      c.unwrap-2.ensures,
      c.extend_from_slice.ensures.items,
      c.unwrap.ensures,
      c.as_flattened.ensures.value,
      c.as_flattened-2.ensures.value,
      c.to_be_bytes.ensures,
      sym (len_is _ _ _ _ c.self.view_is),
    ) (written _ c.slices.result.0.now c.slices.result.1.now _ c.args.out.now.items pieces)
