pub mod Group
pub mod Sizes
pub mod Polar
pub mod Vectors
pub mod Below
pub mod OfRings
pub mod OfCodes
