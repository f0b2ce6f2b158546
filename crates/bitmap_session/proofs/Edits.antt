-- Calls that make many edits of a batch at once.
pub mod Accepted
pub mod Calls
pub mod Commands
pub mod Positions
