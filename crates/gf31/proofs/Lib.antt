pub mod Wholes
pub mod Bounds
