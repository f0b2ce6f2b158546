-- A reader that admits each number which fits 64 bits admits each history that is a log.
use Rattle.std.proofs.Common.{◌≡◌, ℕ, ◌^◌, ◌<◌, true, List, [], ◌∷◌, length, arith}
use Rattle.std.specs.List.{AllByRecursion}
use Rattle.bitmap_core.specs.PrunedBits.{PrunedBits, bit_len}
use Rattle.commit_log.specs.History.{HasLog}
use Rattle.commit_log.specs.Kept.{Kept}
use Rattle.commit_log.specs.Reading.{IsWithin, Ranges}
use Rattle.commit_log.proofs.Histories.{history_is_log}

-- the numbers of retained bits of kept states are admitted
kept_within : (n : ℕ) (r : Ranges) (history : List (ℕ × PrunedBits)) → ((k : ℕ) → k < 2 ^ 64 → r.bits k ≡ true) → AllByRecursion (λ kept. bit_len n kept.1 < 2 ^ 64) history
    → AllByRecursion (λ kept. r.bits (length kept.1.bits) ≡ true) history
kept_within n r [] admit lens = tt
kept_within n r (kept ∷ later) admit lens = (admit (length kept.1.bits) (omega (arith, lens.0)), kept_within n r later admit lens.1)

-- all numbers of a state whose history is a log are admitted
pub log_within : (n : ℕ) (r : Ranges) (s : Kept) → 0 < n → ((k : ℕ) → k < 2 ^ 64 → r.bits k ≡ true) → ((k : ℕ) → k < 2 ^ 64 → r.commits k ≡ true) → HasLog n s → IsWithin r s
log_within n r s pos bits commits has = record {
  current = bits (length s.current.bits) (omega (arith, has.len));
  kept = kept_within n r s.history bits has.lens;
  count = commits _ (history_is_log n s pos has).fits.count;
}
