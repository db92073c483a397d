-- Lemmas on the parts of an input, the sponge and the padding, and the laws that callers use.
pub mod Parts
pub mod Sponge
pub mod Padding
pub mod Bytes
pub mod Strings
pub mod Laws
