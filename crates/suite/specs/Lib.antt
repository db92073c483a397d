pub mod Meaning
pub mod Calls
pub mod Drawn
pub mod Sifted
