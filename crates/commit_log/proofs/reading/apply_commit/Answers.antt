use Rattle.std.proofs.Common.{◌∙◌, ◌-◌, ◌*◌, ap, refl, sym, arith}
use Rattle.bitmap_core.specs.Decoding.{admits}
use Rattle.commit_log.specs.Entries.{view_change}
use Rattle.commit_log.specs.Kept.{kept_of}
use Rattle.commit_log.proofs.ReadHistories.{commits_next}
use Rattle.commit_log.proofs.reading.apply_commit.Goals as goal

pub returns-in-Ok-apply_accepted-clause-made : goal.returns-in-Ok-apply_accepted-clause-made
returns-in-Ok-apply_accepted-clause-made g c =
    let n = g.row.N in
    let width = ap (λ w. admits c.args.bits.now (c.in-Ok.change.len - w * c.in-Ok.change.pruned)) c.chunk_width.ensures in
    commits_next n (admits c.args.bits.now) (kept_of n c.args.bitmap) (kept_of n c.in-Ok-apply_accepted.bitmap) c.args.body.now (view_change n c.in-Ok.change) (λ i. omega (arith, c.type_inv.body i)) c.in-Ok.ensures (c.in-Ok-check_change.ensures.accepted.0 refl)
    (sym width ∙ sym c.contains.ensures ∙ c.if-not-contains.false) c.in-Ok-apply_accepted.ensures.entry
