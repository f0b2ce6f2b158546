-- The kept commits: undoing their records gives each past state. The head of Lib says in which order to read.
-- PastStates: the past states after a commit, a drop and a rewind.
-- KeptCommits: the invariant of kept commits after a drop and a rewind, and look-ups by number.
-- KeptUnder: which states are kept after a drop and a rewind.
-- Positions: kept commits by position: the first one past a number, and those between two positions.
-- Ends: commits dropped one by one, from the first on.
-- InPlace: a past state read in place.
-- Rewound: a rewind in place.
-- Gathered: a past state read in place, with the changed chunks gathered.
-- AddedCommit: the invariant, the history and the costs after a commit.
-- Replaced: the record of a commit of a whole new bitmap.
pub mod PastStates
pub mod KeptCommits
pub mod KeptUnder
pub mod Positions
pub mod Ends
pub mod InPlace
pub mod Rewound
pub mod Gathered
pub mod AddedCommit
pub mod Replaced
