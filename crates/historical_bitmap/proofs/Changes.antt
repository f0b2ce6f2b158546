-- The chunks in which two states differ: the search finds exactly those, and they make one state from the other.
-- Unnamed: a chunk without an entry in a record between two states is the same in both, and so is a whole one without old bytes.
-- Next: the next chunk that differs, searched for among the chunks with entries.
-- Pending: a chunk that is not marked is the same in the current and the pending bitmap.
-- PastEnd: a chunk past the end has no bytes.
-- Prepared: the changes of a prepared commit.
-- Patched: the laws of the chunks that differ.
-- Indexed: the next chunk that may differ, found with an index.
pub mod Unnamed
pub mod Next
pub mod Pending
pub mod PastEnd
pub mod Prepared
pub mod Patched
pub mod Indexed
