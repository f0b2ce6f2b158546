-- The bits of bytes: written, made and shifted.
pub mod Bits
pub mod Made
pub mod Shifted
pub mod Ranges
