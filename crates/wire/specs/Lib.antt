pub mod Layout
pub mod Located
