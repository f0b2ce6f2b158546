pub mod Bytes
pub mod Chunks
pub mod Lists
pub mod Counting
pub mod Words
