use Rattle.std.proofs.Common.{IfErr, Option, drop, length, subst, arith}
use Rattle.bitmap_core.specs.Decoding.{admits}
use Rattle.commit_log.specs.Base.{Names, Reason}
use Rattle.commit_log.proofs.Bases.{any_range, if_only_memory}
use Rattle.commit_log.proofs.Entries.{IsBytes-drop, size-lt}
use Rattle.commit_log.proofs.base.read_base.Goals as goal

pub returns-clause-error : goal.returns-clause-error
returns-clause-error g c =
    let bytes = c.args.bytes.now in
    let fits = size-lt (drop 8 (drop 18 bytes)) (IsBytes-drop 8 (drop 18 bytes) (IsBytes-drop 18 bytes (λ i. omega (arith, c.type_inv.bytes i)))) in
    subst (λ (found : Option Reason). IfErr c.read_base_within.result (λ e. Names e found)) (any_range g.row.N (admits c.any.result) bytes (c.any.ensures _ fits)) c.read_base_within.ensures.error

pub returns-clause-again : goal.returns-clause-again
returns-clause-again g c = λ b fits is.
    if_only_memory g.row.N (admits c.any.result) b c.args.bytes.now c.read_base_within.result c.requires.positive c.read_base_within.ensures.error fits (c.any.ensures (length b.bits.bits) (omega (arith, fits.len))) is
