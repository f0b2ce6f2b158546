-- Definitions of the specs, computed on small values whose results were worked out by hand.
pub mod Batches
pub mod Undos
pub mod Records
pub mod Histories
pub mod PendingBits
pub mod MixedBatch
pub mod Views
pub mod Applied
pub mod CachedEntries
pub mod Changes
pub mod Indexes
