pub mod DigestRange
pub mod Frames
pub mod Headers
pub mod Numbers
