-- The positions that calls of `next` on an iterator over set positions return.
use Rattle.std.proofs.Common.{◌≡◌, ℕ, List, length, ap, subst}
use Rattle.std.specs.Iterator.Runs.{YieldsInOrder}
use Rattle.std.proofs.iter.runs.Sources.{from_front, as_is}
use Rattle.std.proofs.lemmas.Iterator.{YieldsList}
use Rattle.std.proofs.lemmas.Iterator.Consumers.{YieldsList-from_shown}
use Rattle.bitmap_core.specs.Meaning.{Scan, IsScanStep}

abbrev left : Scan → List ℕ
left s = s.left

-- each run of calls returns the positions that were left, in order
pub scan_runs : YieldsInOrder IsScanStep left
scan_runs p seen = as_is p p.from.left (from_front IsScanStep (λ k. k) left (λ s t h. ap length h.yields.0) (λ s k t h. h.yields) p seen)

-- the same, as a chain of iterators begins
pub positions_from : {s : Scan} (ks : List ℕ) → s.left ≡ ks → YieldsList IsScanStep (λ k. k) s ks
positions_from {s} ks e =
    subst (YieldsList IsScanStep (λ k. k) s) e (YieldsList-from_shown IsScanStep (λ k. k) left (λ u t h. ap length h.yields.0) (λ u k t h. h.yields) s)
