pub mod Fed
pub mod Ranges
pub mod PrunedBits
pub mod Text
pub mod Meaning
pub mod Searches
pub mod Encoding
pub mod Decoding
