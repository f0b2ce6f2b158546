-- The entry of the commit that a delta makes.
use Rattle.std.proofs.Common.{◌≡◌, sym, ap, subst, ◌∙◌}
use Rattle.std.specs.Prelude.{ℕ, ◌^◌, ◌<◌, length}
use Rattle.commit_log.specs.Accepted.{Accepts}
use Rattle.commit_log.specs.Entries.{Change, FitsChange, encode_entry}
use Rattle.commit_log.specs.Entries.Entry.{Commit}
use Rattle.commit_log.specs.Kept.{Kept, after, entry_to}
use Rattle.commit_log.specs.Logs.{LogView, MayFollow, appended}

-- the entry of the commit that an accepted change makes is that of the change
pub entry_is : (n : ℕ) (s t : Kept) (c : Change) → Accepts n s (Commit c) → t ≡ after n s (Commit c) → entry_to n s t ≡ Commit c
entry_is n s t c accepted is = ap (entry_to n s) is ∙ ap Commit accepted.1.changed

pub written_is : (n : ℕ) (s t : Kept) (c : Change) (old new : LogView) → Accepts n s (Commit c) → t ≡ after n s (Commit c) → new ≡ appended old (Commit c) → new ≡ appended old (entry_to n s t)
written_is n s t c old new accepted is written = written ∙ ap (appended old) (sym (entry_is n s t c accepted is))

pub follows_is : (n : ℕ) (s t : Kept) (c : Change) → Accepts n s (Commit c) → t ≡ after n s (Commit c) → FitsChange n c → length (encode_entry (Commit c)) < 2 ^ 64 → MayFollow n s (entry_to n s t)
follows_is n s t c accepted is fits small =
    subst (MayFollow n s) (sym (entry_is n s t c accepted is)) (record { fits = fits; small = small; accepted = accepted })

pub after_is : (n : ℕ) (s t : Kept) (c : Change) → Accepts n s (Commit c) → t ≡ after n s (Commit c) → t ≡ after n s (entry_to n s t)
after_is n s t c accepted is = is ∙ ap (after n s) (sym (entry_is n s t c accepted is))
