-- Bitmaps with the digests of every version that they keep: what their contracts say.
pub mod Versions
pub mod Ranges
