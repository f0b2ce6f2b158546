-- The change of a commit follows the bitmap that it was made from.
use Rattle.std.proofs.Common.{ℕ, Result, Ok, Err, OnOk, ◌<◌, ◌≤◌, ap, arith}
use Rattle.bitmap_core.specs.PrunedBits.{PrunedBits}
use Rattle.commit_log.specs.Accepted.{Follows}
use Rattle.commit_log.specs.Kept.{change_to}
use Rattle.commit_log.proofs.Applied.{applied_change}

pub change_follows : (n number : ℕ) (old new : PrunedBits) → 0 < n → old.pruned ≤ new.pruned → Follows n old (change_to n number old new)
change_follows n number old new pos le = record {
  extent = record { rises = le; covers = omega arith };
  changed = ap (change_to n number old) (applied_change n number old new pos);
}

pub ok_both : {A E : Type 0} (r : Result A E) (P Q : Type 0) → OnOk r P → Q → OnOk r (P × Q)
ok_both (Ok x) P Q p q = (p, q)
ok_both (Err e) P Q p q = tt
