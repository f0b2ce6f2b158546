-- Words of a bitmap: loaded words, the scan over them, and the calls of `next` that a scan serves.
pub mod Scan
pub mod Loaded
pub mod Runs
