-- Lemmas about historical bitmaps, by topic. The folders `bitmap` and `laws` prove the functions, from these lemmas.
-- The argument that undoing the reverse records gives each past state, in the order in which to read it:
-- 1. specs: Record defines a record and the bitmap before it, Undo its undo in steps, History the past states of kept commits.
-- 2. Records.Restores, `before_is`: a record that leads from the newer bitmap to the older one gives the older one.
-- 3. Records.UndoneInSteps, `steps_are`: a record undone in steps, as the code undoes it, gives the same bitmap.
-- 4. Records.EntryPasses: the loops over the entries in those steps do what the specs say.
-- 5. Pending.Record, `record_leads_back`, `record_can_undo`: the record that a commit makes leads from the pending bitmap to the current one, and can be undone.
-- 6. History.PastStates, `snapshots_push`, `snapshots_from`, `snapshots_rewound`: a commit, a drop and a rewind leave the other past states unchanged.
-- 7. History.AddedCommit, `kept_more`, `history_more`: a commit keeps the invariant, and appends its bitmap to the history.
-- 8. History.KeptCommits, `found_under`, `last_undone`: the state under a kept number is the current bitmap with the later records undone, newest first.
-- 9. History.InPlace, `found_in_place`: each bit of a past state is found without rebuilding it.
-- 10. History.Rewound, `rewound_is`: the old bytes of the later records, written over the current bitmap, give the past state.
-- 11. History.KeptUnder: which states are kept after a drop and after a rewind.
-- 12. Index.Found, `found_with`: an index finds the same old bytes as a walk over the later records.
pub mod Lists
pub mod Records
pub mod History
pub mod Index
pub mod EditedChunks
pub mod Pending
pub mod Changes
pub mod Examples
