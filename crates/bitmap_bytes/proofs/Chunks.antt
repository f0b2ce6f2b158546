-- Chunks of bytes: in which chunk a bit is, how edits change the bits, and which bytes the chunks are.
pub mod Bits
pub mod AsBytes
pub mod Lists
pub mod OfBytes
pub mod Concatenated
pub mod Places
pub mod Packed
