pub mod Examples
pub mod Arguments
