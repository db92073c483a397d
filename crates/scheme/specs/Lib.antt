pub mod Rounds
pub mod Challenges
pub mod Signing
pub mod Verifying
pub mod Fits
