pub mod Tree
pub mod Root
pub mod Stored
pub mod StoredBitmap
pub mod Encoding
pub mod Range
pub mod RangeEncoding
pub mod LeafDigests
