-- Definitions computed on small values whose results were worked out by hand.
pub mod KeptLogs
pub mod ListPages
pub mod MadeSessions
pub mod Outputs
pub mod ReadValues
pub mod RecoveredLogs
pub mod SavedStatuses
