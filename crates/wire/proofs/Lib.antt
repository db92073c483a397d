pub mod Rounds
pub mod Judged
pub mod Everywhere
pub mod Locating
