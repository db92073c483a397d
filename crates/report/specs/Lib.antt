pub mod Scan
pub mod Compare
