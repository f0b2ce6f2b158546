use Rattle.std.proofs.Common.{sym, ap, ◌∙◌}
use Rattle.bitmap_core.specs.PrunedBits.{PrunedBits}
use Rattle.commit_log.specs.Kept.{applied, change_to}
use Rattle.commit_log.proofs.Applied.{applied_change}
use Rattle.commit_log.proofs.laws.two_deltas_make_one.Goals as goal

pub returns : goal.returns
returns c = λ n i j k a b last pos.
    ap (λ (x : PrunedBits). applied n x (change_to n k b last)) (applied_change n j a b pos) ∙ applied_change n k b last pos ∙ sym (applied_change n k a last pos)
