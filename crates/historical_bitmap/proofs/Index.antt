-- The index of kept commits by chunk.
-- Rows: rows of old bytes, changed at one number.
-- Updates: the places of a record, added and removed.
-- Latest: a commit, added to the index of the earlier ones and removed from it.
-- Found: the old bytes of a chunk, found with an index.
pub mod Rows
pub mod Updates
pub mod Latest
pub mod Found
