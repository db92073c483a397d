-- Lemmas for the exported functions.
mod Codes
