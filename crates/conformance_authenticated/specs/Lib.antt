pub mod Sha
