pub mod Chunk
pub mod Bits
pub mod Combined
pub mod Words
