-- What the contracts of Keccak-f[1600] cite, in the order of FIPS 202.
pub mod State
pub mod Lanes
pub mod Constants
pub mod Bits
pub mod Rounds
