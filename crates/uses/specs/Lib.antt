pub mod Digests
pub mod Replicas
