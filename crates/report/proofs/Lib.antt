-- Lemmas for reports.
mod Places
