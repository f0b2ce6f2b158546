-- Bitmaps with a pruned prefix.
pub mod Positions
pub mod Edits
pub mod Codec
pub mod Ranges
