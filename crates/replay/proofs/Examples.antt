-- Definitions computed on small values whose results were worked out by hand.
pub mod Explanations
pub mod Widths
