pub mod Quad
pub mod Laws
