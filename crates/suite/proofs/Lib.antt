pub mod Sifts
pub mod Draws
pub mod Bytes
pub mod Limits
