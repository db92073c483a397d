pub mod Tested
pub mod Pairs
