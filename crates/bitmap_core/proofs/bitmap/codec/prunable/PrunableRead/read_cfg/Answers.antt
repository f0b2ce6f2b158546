use Rattle.std.proofs.Common.{arith, rules, ◌≡◌, ◌∙◌, ap, length}
use Rattle.bitmap_bytes.specs.Bits.{bits}
use Rattle.bitmap_bytes.proofs.Lists.Bits.{length-bits}
use Rattle.bitmap_core.proofs.Codec.Encodings.{AreBytes-drop, number-lt}
use Rattle.bitmap_core.proofs.Codec.Parts.{read_is}
use Rattle.bitmap_core.proofs.Pruned.Codec.{pruned_read, pruned_in_encoded}
use Rattle.bitmap_core.proofs.bitmap.codec.prunable.PrunableRead.read_cfg.Goals as goal

pub from_chunks-requires : goal.from_chunks-requires
from_chunks-requires g c =
    let e = c.in_ok-pruned_chunks.ensures in
    let r = read_is _ _ _ _ _ _ c.requires.positive
    (AreBytes-drop 8 c.args.from.now.now c.pruned_parts.ensures.bytes) e.bits_accepted e.len e.chunks e.rest in
    (omega (arith, c.requires.fits), (omega arith, (c.requires, (r.count, r.zero))))

pub from_parts-requires : goal.from_parts-requires
from_parts-requires g c =
    let v : c.in_ok-bits.bits ≡ bits g.row.N c.in_ok-pruned_chunks.chunks.now c.in_ok-pruned_chunks.len = search rules in
    let l : length c.in_ok-bits.bits ≡ c.in_ok-pruned_chunks.len =
    ap length v
    ∙ length-bits g.row.N c.in_ok-pruned_chunks.chunks.now c.in_ok-pruned_chunks.len in
    (omega arith, (omega arith, (c.requires, omega (arith, l, c.in_ok-pruned_chunks.ensures.total))))

pub returns-clause-found : goal.returns-clause-found
returns-clause-found g c =
    let parts = c.in_ok-pruned_chunks in
    let e = parts.ensures in
    let r = read_is _ _ _ _ _ _ c.requires.positive
    (AreBytes-drop 8 c.args.from.now.now c.pruned_parts.ensures.bytes) e.bits_accepted e.len e.chunks e.rest in
    let v : c.in_ok-bits.bits ≡ bits g.row.N parts.chunks.now parts.len = search rules in
    pruned_read _ c.args.from.now.now (bits _ _ _) parts.rest.now c.from_parts.result c.pruned_parts.ensures.bytes e.long r.encoded
    (ap (λ x. x.pruned) c.from_parts.ensures ∙ e.pruned) (ap (λ x. x.bits) c.from_parts.ensures ∙ v)

pub returns-clause-value : goal.returns-clause-value
returns-clause-value g c =
    let parts = c.in_ok-pruned_chunks in
    let v : c.in_ok-bits.bits ≡ bits g.row.N parts.chunks.now parts.len = search rules in
    let l : length c.in_ok-bits.bits ≡ parts.len =
    ap length v
    ∙ length-bits g.row.N parts.chunks.now parts.len in
    pruned_in_encoded _ c.args.from.now.now c.from_parts.result parts.rest.now c.requires.positive
    (omega (arith, l, ap (λ x. length x.bits) c.from_parts.ensures, parts.ensures.total))
    (omega (arith, ap (λ x. x.pruned) c.from_parts.ensures, parts.ensures.pruned, number-lt c.args.from.now.now c.pruned_parts.ensures.bytes))
    (returns-clause-found g c)
