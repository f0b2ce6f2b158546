-- Definitions computed on small values whose results were worked out by hand.
pub mod Refusals
pub mod Replies
pub mod Steps
pub mod Sessions
pub mod Laws
pub mod Edits
