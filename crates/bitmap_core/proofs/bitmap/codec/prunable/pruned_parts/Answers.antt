use Rattle.std.proofs.Common.{◌≡◌, ◌≤◌, ◌+◌, ◌∙◌, ◌^◌, drop, not, true, Option, None, Some, arith, rules, sym, ap}
use Rattle.std.specs.Prelude.{SomeIff, is_some}
use Rattle.bitmap_core.specs.Decoding.{number, admits, bits_error, pruned_error, decode_error}
use Rattle.bitmap_core.proofs.Codec.Encodings.{number-lt}
use Rattle.bitmap_core.proofs.Codec.DecodeErrors.{sound_pruned-none, pruned_bits_error, pruned_total_error}
use Rattle.bitmap_core.proofs.bitmap.codec.prunable.pruned_parts.Goals as goal

some_holds : {T P : Type 0} (o : Option T) (v : T) → SomeIff o P v → is_some o ≡ true → P
some_holds None v s e = absurd cc
some_holds (Some x) v s e = s.0

pub returns-in_err-len-clause-refused : goal.returns-in_err-len-clause-refused
returns-in_err-len-clause-refused g c =
    let p = c.in_ok-pruned_chunks.ensures in
    let bits : bits_error g.row.N (admits c.args.range.now) (drop 8 c.args.text.now) ≡ decode_error c.in_err-len.field-0.0 =
    ap (bits_error g.row.N (admits c.args.range.now)) (sym p.body)
    ∙ c.in_err-len.ensures.refused in
    let q : pruned_error g.row.N (admits c.args.range.now) c.args.text.now ≡ decode_error c.in_err-len.field-0.0 =
    pruned_bits_error _ (admits _) c.args.text.now _ p.long p.fits (number-lt _ c.count_part.ensures.bytes) bits c.in_err-len.ensures.named in
    search rules

pub returns-then-is_none-clause-refused : goal.returns-then-is_none-clause-refused
returns-then-is_none-clause-refused g c =
    let p = c.in_ok-pruned_chunks.ensures in
    let many : 2 ^ 64 ≤ c.in_ok-pruned_chunks.pruned_bits + c.in_ok-len.len = search rules in
    let len = c.in_ok-len.ensures.len ∙ ap number p.body in
    pruned_total_error _ (admits _) c.args.text.now p.long p.fits (number-lt _ c.count_part.ensures.bytes)
    (ap (bits_error _ (admits _)) (sym p.body) ∙ c.in_ok-len.ensures.accepted) (omega (arith, p.pruned, len, many))

pub returns-clause-accepted : goal.returns-clause-accepted
returns-clause-accepted g c =
    let p = c.in_ok-pruned_chunks.ensures in
    let few = some_holds c.checked_add.result _ c.checked_add.ensures (c.is_none.ensures ∙ ap not c.if-is_none.false) in
    let len = c.in_ok-len.ensures.len ∙ ap number p.body in
    sound_pruned-none g.row.N (admits c.args.range.now) c.args.text.now (record {
      long = p.long;
      fits = p.fits;
      count = number-lt c.args.text.now c.count_part.ensures.bytes;
      bits = ap (bits_error g.row.N (admits c.args.range.now)) (sym p.body) ∙ c.in_ok-len.ensures.accepted;
      total = omega (arith, p.pruned, len, few);
    })
