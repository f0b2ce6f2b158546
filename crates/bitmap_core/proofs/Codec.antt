-- Encodings: decoding, encoding, and decode errors.
pub mod Encodings
pub mod Parts
pub mod DecodeErrors
pub mod ReadAgain
pub mod Styled
