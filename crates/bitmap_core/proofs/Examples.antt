-- Definitions computed on small values whose results were worked out by hand.
pub mod EachPlace
pub mod Chunks
pub mod ManyChunks
pub mod Pruned
pub mod Readers
pub mod Ranges
pub mod Searches
pub mod Encodings
pub mod DecodeErrors
pub mod Texts
