-- What entries make of a state, which entries a state accepts, and the entries of a history. Each chunk has one byte.
use Rattle.std.specs.Prelude.{◌≡◌, ℕ, true, false, [], ◌∷◌, Some, None, List, length}
use Rattle.std.proofs.Common.{refl, arith, ap}
use Rattle.std.proofs.lemmas.Bool.{false≢true}
use Rattle.bitmap_core.specs.PrunedBits.{PrunedBits}
use Rattle.commit_log.specs.declared.base.Past.TheVariants.{NoCommit, KeptUnder}
use Rattle.commit_log.specs.Accepted.{Accepts, Follows, HasExtent}
use Rattle.commit_log.specs.Base.{Base}
use Rattle.commit_log.specs.Entries.{Entry, encode_change, encode_chunk, encode_entry}
use Rattle.commit_log.specs.Entries.Entry.{Commit, Rewind, DropBefore, Clear}
use Rattle.commit_log.specs.History.{history_base, history_entries}
use Rattle.commit_log.specs.Kept.{Kept, after}
use Rattle.commit_log.specs.Logs.{MayFollow, state_of}
use Rattle.conformance_log.proofs.Examples.Changes.{eleven, three, to_eleven}
use Rattle.conformance_log.proofs.Examples.Encodings.{nothing}

-- commit 1 appends the bits 1, 0, 1
abbrev commit_1 : Entry
commit_1 = Commit (record { number = 1; len = 3; pruned = 0; chunks = (0, 5 ∷ []) ∷ [] })

abbrev at_1 : Kept
at_1 = record { current = three; history = (1, three) ∷ []; last = Some 1 }

abbrev at_5 : Kept
at_5 = record { current = eleven; history = (1, three) ∷ (5, eleven) ∷ []; last = Some 5 }

after_two_commits : state_of 1 nothing (commit_1 ∷ Commit to_eleven ∷ []) ≡ at_5
after_two_commits = refl

-- a rewind to 1 makes its bits current, and keeps no later state
after_rewind : state_of 1 nothing (commit_1 ∷ Commit to_eleven ∷ Rewind 1 ∷ []) ≡ at_1
after_rewind = refl

-- a drop of the commits before 5, and one of all, leave the current bits and the last number
after_drop : state_of 1 nothing (commit_1 ∷ Commit to_eleven ∷ DropBefore 5 ∷ []) ≡ record { current = eleven; history = (5, eleven) ∷ []; last = Some 5 }
after_drop = refl

after_clear : state_of 1 nothing (commit_1 ∷ Rewind 1 ∷ Clear ∷ []) ≡ record { current = three; history = []; last = Some 1 }
after_clear = refl

-- the history of two kept states: the first one is the base, which counts the other one, and that is a commit
base_of_history : history_base at_5 ≡ record { bits = three; past = KeptUnder 1 1 }
base_of_history = refl

entries_of_history : history_entries 1 at_5 ≡ Commit to_eleven ∷ []
entries_of_history = refl

-- the state after commit 1 accepts commit 5, and a rewind to 1
accepts_commit : Accepts 1 at_1 (Commit to_eleven)
accepts_commit = (refl, record { extent = record { rises = omega arith; covers = omega arith }; changed = refl })

accepts_rewind : Accepts 1 at_1 (Rewind 1)
accepts_rewind = refl

-- it accepts no rewind to 2, and no commit without the list of chunks
refuses_rewind : Accepts 1 at_1 (Rewind 2) → ⊥
refuses_rewind accepted = false≢true accepted

refuses_commit : Accepts 1 at_1 (Commit (record { number = 5; len = 11; pruned = 0; chunks = [] })) → ⊥
refuses_commit accepted = omega (arith, ap (λ change. length change.chunks) accepted.1.changed)

-- a rewind to 1 may be the next entry of its log
rewind_follows : MayFollow 1 at_1 (Rewind 1)
unfolding encode_entry
rewind_follows = record { fits = omega arith; small = omega arith; accepted = refl }
