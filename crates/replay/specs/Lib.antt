pub mod Explanations
pub mod Width
