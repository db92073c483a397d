-- Lemmas on folds, tables, bits, steps and rounds; `Whole` has those that callers use.
pub mod Count
pub mod Table
pub mod Bits
pub mod BitByBit
pub mod RoundConstants
pub mod Rounds
pub mod Whole
