pub mod Ascending
pub mod Entries
pub mod Next
pub mod Trie
