-- Historical bitmaps: what their contracts say. The files are in the order in which to read them.
-- Edits: the edits of a batch, and the chunks that they touch.
-- Record, Stored: reverse records, and how the code stores them.
-- Undo: a record undone in steps.
-- History: kept commits, and the past states that their records give.
-- Past: past states, in the way in which they are read.
-- Rewind: conditions inside the code that rewinds in place.
-- Index: the index of kept commits by chunk.
-- Cost: how many entries a record may have.
-- Changes: the chunks in which two states differ.
-- Replaced: the record of a commit of a whole new bitmap.
-- Pending: pending edits, each edit of them, and the record that a commit makes.
-- Compared, Appended, CachedWord: conditions inside the code that compares states and stores edited chunks.
-- View: a whole historical bitmap, as the contracts of its calls describe it.
-- Prepared: a commit in two steps.
-- Lengths: edits that make a batch longer by many bits at once.
-- Batch: the result of a batch.
pub mod Edits
pub mod Record
pub mod Stored
pub mod Undo
pub mod History
pub mod Past
pub mod Rewind
pub mod Index
pub mod Cost
pub mod Changes
pub mod Replaced
pub mod Pending
pub mod Compared
pub mod Appended
pub mod CachedWord
pub mod View
pub mod Prepared
pub mod Lengths
pub mod Batch
pub mod Lends
