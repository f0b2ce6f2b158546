-- Lists of bits, and the chunks that they are packed into.
pub mod Bits
