pub mod Fronts
pub mod Walks
pub mod Lengths
pub mod Signed
pub mod Stepwise
