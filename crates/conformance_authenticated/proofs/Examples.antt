-- Definitions of the specs of authenticated_bitmap, computed on small values whose results were worked out by hand.
pub mod Trees
