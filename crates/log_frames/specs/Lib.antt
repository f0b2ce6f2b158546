pub mod Cuts
pub mod Digest
pub mod Frames
pub mod Header
