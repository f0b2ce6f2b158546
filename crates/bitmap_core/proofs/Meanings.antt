-- The meanings of bitmaps, as readers see them.
pub mod Pruned
pub mod Plain
