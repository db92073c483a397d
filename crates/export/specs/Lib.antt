-- What the contracts of the exported functions cite.
pub mod Calls
pub mod Hashes
pub mod Maps
