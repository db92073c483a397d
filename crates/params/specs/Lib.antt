pub mod Sets
pub mod Sizes
