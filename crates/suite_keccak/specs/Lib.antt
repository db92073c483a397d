pub mod Hashes
pub mod Laws
