use Rattle.std.proofs.Common.{arith, rules, ◌≡◌, ◌∙◌, ◌++◌, sym, ap, length}
use Rattle.bitmap_bytes.specs.Bits.{bits}
use Rattle.bitmap_core.specs.Encoding.{encoding}
use Rattle.bitmap_bytes.proofs.Lists.Bits.{length-bits}
use Rattle.bitmap_core.proofs.Codec.Encodings.{number-lt, bits_in_encoded}
use Rattle.bitmap_core.proofs.Codec.Parts.{read_is}
use Rattle.bitmap_core.proofs.bitmap.codec.dense.BitMapRead.read_cfg.Goals as goal

pub from_chunks-requires : goal.from_chunks-requires
from_chunks-requires g c =
    let e = c.in_ok-len.ensures in
    let r = read_is _ _ _ _ _ _ c.requires.positive c.parts.ensures.bytes e.accepted e.len e.chunks e.rest in
    (omega (arith, c.requires.fits), (omega arith, (c.requires, (r.count, r.zero))))

pub returns-clause-found : goal.returns-clause-found
returns-clause-found g c =
    let e = c.in_ok-len.ensures in
    let r = read_is _ _ _ _ _ _ c.requires.positive c.parts.ensures.bytes e.accepted e.len e.chunks e.rest in
    let v : c.in_ok-map.map ≡ bits g.row.N c.in_ok-len.chunks.now c.in_ok-len.len = search rules in
    r.encoded ∙ ap (λ x. encoding g.row.N x ++ c.in_ok-len.rest.now) (sym v)

pub returns-clause-sized : goal.returns-clause-sized
returns-clause-sized g c =
    let v : c.in_ok-map.map ≡ bits g.row.N c.in_ok-len.chunks.now c.in_ok-len.len = search rules in
    omega (
      arith,
      ap length v,
      length-bits g.row.N c.in_ok-len.chunks.now c.in_ok-len.len,
      c.in_ok-len.ensures.len,
      number-lt c.args.from.now.now c.parts.ensures.bytes,
    )

pub returns-clause-value : goal.returns-clause-value
returns-clause-value g c =
    bits_in_encoded _ c.args.from.now.now c.in_ok-map.map c.in_ok-len.rest.now c.requires.positive (returns-clause-sized g c)
    (returns-clause-found g c)
