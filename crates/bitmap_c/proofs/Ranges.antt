-- Ranges that admit the same numbers.
use Rattle.std.proofs.Common.{◌≡◌, ℕ, Bool, List, drop, refl, ap, ◌∙◌}
use Rattle.std.proofs.Math.Path.{fun_ext}
use Rattle.bitmap_core.specs.Decoding.{number, pruned_error}
use Rattle.commit_log.specs.Reading.{Ranges}

-- ranges that admit the same lengths give the same decode error
pub same_error : (n : ℕ) (range other : ℕ → Bool) (bytes : List ℕ) → ((len : ℕ) → range len ≡ other len)
    → pruned_error n range bytes ≡ pruned_error n other bytes
unfolding pruned_error
same_error n range other bytes same = rw (same (number (drop 8 bytes))) refl

-- ranges of a history that admit the same numbers are the same
pub same_ranges : (r s : Ranges) → ((k : ℕ) → r.bits k ≡ s.bits k) → ((k : ℕ) → r.commits k ≡ s.commits k) → r ≡ s
same_ranges r s bits commits =
    ap (λ (b : ℕ → Bool). record r { bits = b }) (fun_ext bits) ∙ ap (λ (k : ℕ → Bool). record s { commits = k }) (fun_ext commits)
