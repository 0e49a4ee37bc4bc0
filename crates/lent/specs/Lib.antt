-- Lent: the short normal form in scratch that the caller lends.
pub mod Lent
