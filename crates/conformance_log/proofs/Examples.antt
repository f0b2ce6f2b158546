-- Definitions of the specs of commit_log and log_frames, computed on small values whose results were worked out by hand.
pub mod Changes
pub mod Encodings
pub mod States
