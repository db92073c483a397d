-- What the contracts of SHA3-256 and SHAKE128 cite, in the order of FIPS 202.
pub mod Padding
pub mod Sponge
pub mod Strings
pub mod Hash
pub mod Fed
