pub mod Integers
pub mod Verdicts
