-- Octets: the integer that octets are, by what the code looks at.
pub mod Octets
