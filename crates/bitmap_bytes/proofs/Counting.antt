-- How many bits of a range are true, and whether none is: by position, byte, word and chunk.
pub mod Ones
pub mod Places
pub mod Tests
pub mod ByteRanges
pub mod Words
pub mod Blocks
pub mod Parts
pub mod Pairs
