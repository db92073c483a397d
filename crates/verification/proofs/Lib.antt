pub mod Loaded
pub mod Vectors
pub mod Flattened
pub mod Joined
pub mod Heard
pub mod Places
