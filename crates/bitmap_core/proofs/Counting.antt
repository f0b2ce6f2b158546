-- How many bits of a range of joined chunks are true.
pub mod JoinedChunks
