-- Reads of the bitmap that a machine keeps under a number.
use Rattle.std.proofs.Common.{◌≡◌, ℕ, Bool, true, false, List, refl}
use Rattle.std.specs.Option.{ok_or, option_map}
use Rattle.std.specs.Prelude.{Option, Some, None, Result, Ok, Err, if◌then◌else◌}
use Rattle.bitmap_core.specs.Meaning.{Meaning, pruned_meaning}
use Rattle.bitmap_core.specs.PrunedBits.{PrunedBits}
use Rattle.historical_bitmap.specs.Changes.{changed_between}
use Rattle.historical_bitmap.specs.History.{at_least, kept_under}
use Rattle.bitmap_session.specs.Machine.{Machine, is_dirty}
use Rattle.bitmap_c.specs.Pages.{changes_read}
use Rattle.bitmap_c.specs.Reads.{of_kept, session_commit}

-- outside a batch, the read of a kept bitmap is the read of this bitmap
read_of : {A : Type 0} (N : ℕ) (in_batch : Bool) (kept : Option PrunedBits) (bitmap : PrunedBits) (read : ℕ → Meaning → Result A ℕ)
    → Some bitmap ≡ (if in_batch then None else kept)
    → (if in_batch then Err 1 else of_kept N kept read) ≡ read N (pruned_meaning N bitmap)
read_of N true kept bitmap read found = cc
read_of N false kept bitmap read found = rw (← found) refl

-- if a session returns the bitmap at a commit, the read of this commit is the read of the bitmap
pub read_kept : {A : Type 0} (N : ℕ) (m : Machine) (number : ℕ) (bitmap : PrunedBits) (read : ℕ → Meaning → Result A ℕ)
    → Some bitmap ≡ (if is_dirty m.state then None else kept_under m.state.history number)
    → session_commit N m number read ≡ read N (pruned_meaning N bitmap)
read_kept N m number bitmap read found = read_of N (is_dirty m.state) (kept_under m.state.history number) bitmap read found

-- outside a batch, what is read of the chunks that differ is those from one on
changes_of : (in_batch : Bool) (found : Option (List ℕ)) (chunks : List ℕ) (first missing : ℕ) (refused : Result (List ℕ) ℕ)
    → Some chunks ≡ (if in_batch then None else found)
    → (if in_batch then refused else ok_or (option_map (at_least first) found) missing) ≡ Ok (at_least first chunks)
changes_of true found chunks first missing refused e = cc
changes_of false found chunks first missing refused e = rw (← e) refl

-- if a session returns the chunks that differ between two commits, the read is those from one on
pub read_changes : (N : ℕ) (m : Machine) (from to first : ℕ) (chunks : List ℕ)
    → Some chunks ≡ (if is_dirty m.state then None else changed_between N m.state.history from to)
    → changes_read N m from to first ≡ Ok (at_least first chunks)
read_changes N m from to first chunks e = changes_of (is_dirty m.state) (changed_between N m.state.history from to) chunks first 12 (Err 1) e
