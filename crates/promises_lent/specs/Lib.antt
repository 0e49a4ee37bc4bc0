-- Promises: what is promised of the short normal form in lent scratch.
pub mod Promises
