-- Definitions computed on small values whose results were worked out by hand.
pub mod Contents
pub mod Trees
