-- One reverse record: undoing it gives the bitmap before its commit. The head of Lib says in which order to read.
-- Restores: the record rebuilds the older bitmap.
-- UndoneInSteps: so does undoing it in steps, as the code does.
-- EntryPasses: the loops over its entries.
pub mod Restores
pub mod UndoneInSteps
pub mod EntryPasses
