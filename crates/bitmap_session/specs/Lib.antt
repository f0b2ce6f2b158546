pub mod Replies
pub mod Laws
pub mod Machine
pub mod Abstraction
pub mod Saved
pub mod Edits
pub mod Logged
