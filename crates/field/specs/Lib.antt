pub mod Ring
pub mod Codes
pub mod Terms
pub mod Coding
