pub mod Named
pub mod Names
