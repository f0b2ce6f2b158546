use Rattle.std.proofs.Common.{arith, ap, length}
use Rattle.bitmap_core.specs.Encoding.{encoding}
use Rattle.bitmap_core.proofs.Pruned.Codec.{length-pruned, pruned_written}
use Rattle.bitmap_core.proofs.bitmap.codec.prunable.PrunableWrite.write.Goals as goal

pub unwrap-requires : goal.unwrap-requires
unwrap-requires g c =
    let l = length-pruned g.row.N c.args.self.now in
    c.extend_from_slice.ensures.succeeds (let b = c.to_be_bytes.ensures in grind arith)

pub append_encoding-requires : goal.append_encoding-requires
append_encoding-requires g c =
    let l = length-pruned g.row.N c.args.self.now in
    (omega arith, let e = ap (λ x. length (encoding g.row.N x)) c.retained.ensures.value in let b = c.to_be_bytes.ensures in grind arith)

pub returns-clause-items : goal.returns-clause-items
returns-clause-items g c =
    rw (
      c.append_encoding.ensures,
      c.extend_from_slice.ensures.items,
      c.unwrap.ensures,
      c.to_be_bytes.ensures,
      c.pruned_chunks-count.ensures,
      c.retained.ensures.value,
      c.in_ok-reserve.ensures.items,
    ) (pruned_written g.row.N c.args.self.now c.args.out.now.items)
