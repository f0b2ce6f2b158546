-- The edited chunks of a batch: a map, appended chunks and a cached word, read and written as one list of entries.
-- ReplacedChunk: entries with another chunk under an index that has one.
-- WrittenBits: a bit written to a chunk.
-- Appended: entries of which the appended ones are stored apart.
-- OpenedChunk: the first bit of a new chunk.
-- ManyChunks: many chunks inserted, removed again, and set in a range of their bits.
-- OpenedUpTo: chunks opened up to an index, past which there is none.
-- JoinedBits: the bits of a dense bitmap, joined to edited chunks.
-- CachedWord: entries with a cached word.
-- CutChunks: entries that are cut at an index or at a position.
pub mod ReplacedChunk
pub mod WrittenBits
pub mod Appended
pub mod CachedWord
pub mod OpenedChunk
pub mod ManyChunks
pub mod OpenedUpTo
pub mod JoinedBits
pub mod CutChunks
