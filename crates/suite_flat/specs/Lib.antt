pub mod Flat
pub mod Laws
