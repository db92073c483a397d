pub mod Entries
pub mod Stored
