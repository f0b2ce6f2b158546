-- Versions: the digests follow a bitmap from its beginning on, through commits, drops and rewinds.
-- Kept: the versions that are kept after a commit, a drop and a rewind.
-- Committed: a commit of the digests, and then of the bitmap.
-- StoredReads: what is read from stored digests is the root, or the audit path, of the state that they authenticate.
-- RangeReads: the same of the siblings of consecutive chunks.
-- Verified: a chunk and its path are verified by the values that calls return.
pub mod Versions
pub mod Kept
pub mod Committed
pub mod StoredReads
pub mod RangeReads
pub mod Verified
