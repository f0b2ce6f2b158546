-- Runs of chunks: equal, whole, combined, compared position by position, with a group, a byte or a range written, and with a byte read.
pub mod Equal
pub mod Quarters
pub mod Whole
pub mod Combined
pub mod Groups
pub mod ByteWritten
pub mod ByteRead
pub mod Pairs
pub mod Ranges
