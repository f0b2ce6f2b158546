-- Words of a chunk: where they begin, their masks, and words that are made of bytes.
pub mod Starts
pub mod Masks
pub mod OfBytes
pub mod Joined
