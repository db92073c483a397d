pub mod Modulo
pub mod Whole
pub mod Laws
