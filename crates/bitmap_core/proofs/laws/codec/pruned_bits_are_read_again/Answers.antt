use Rattle.std.proofs.Common.{arith, sym}
use Rattle.bitmap_core.specs.Decoding.{admits}
use Rattle.bitmap_core.proofs.Codec.ReadAgain.{pruned_read_again, err_is_memory, pruned_encoded_none}
use Rattle.bitmap_core.proofs.Pruned.Codec.{pruned_in_encoded}
use Rattle.bitmap_core.proofs.laws.codec.pruned_bits_are_read_again.Goals as goal

pub returns-clause-encoded : goal.returns-clause-encoded
returns-clause-encoded g c = λ rest e.
    sym (pruned_in_encoded g.row.N c.args.from.now.now c.args.map.now rest c.len.ensures.width.positive
    (omega (arith, c.len.ensures.bound))
    (omega (arith, c.pruned_chunks.ensures, c.pruned_chunks.type_inv)) e)

pub returns-clause-accepted : goal.returns-clause-accepted
returns-clause-accepted g c = λ rest e a.
    pruned_encoded_none g.row.N (admits _) c.args.from.now.now c.args.map.now rest c.len.ensures.width.positive c.len.ensures.bound
    (omega (arith, c.pruned_chunks.ensures, c.pruned_chunks.type_inv)) a e

pub returns-clause-found : goal.returns-clause-found
returns-clause-found g c = λ rest e.
    let positive = c.len.ensures.width.positive in
    let read = c.read_cfg.ensures in
    pruned_read_again _ c.args.from.now.now c.args.map.now rest _ _ positive c.len.ensures.bound
    (omega (arith, c.pruned_chunks.ensures, c.pruned_chunks.type_inv)) e read.found read.sized

pub returns-clause-refused : goal.returns-clause-refused
returns-clause-refused g c = λ rest e a.
    let positive = c.len.ensures.width.positive in
    let read = c.read_cfg.ensures in
    err_is_memory _ _ read.refused
    (pruned_encoded_none _ (admits _) c.args.from.now.now c.args.map.now rest positive c.len.ensures.bound
    (omega (arith, c.pruned_chunks.ensures, c.pruned_chunks.type_inv)) a e)
