-- Lists of bits and of positions, and the effect of edits of the chunks on them.
pub mod Edits
pub mod WholeBits
pub mod BitByBit
pub mod Equality
pub mod SetPositions
pub mod Members
pub mod Ranges
pub mod Pairs
