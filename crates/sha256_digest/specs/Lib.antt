pub mod Sha256Hash
