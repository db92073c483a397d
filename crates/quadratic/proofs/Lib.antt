pub mod Rows
pub mod Crosses
pub mod Triangles
pub mod Fills
pub mod Parts
pub mod ByTerms
pub mod Coefficients
pub mod Zeros
