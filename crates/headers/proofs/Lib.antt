pub mod Table
pub mod Lengths
pub mod Usual
pub mod Lies
pub mod Fields
pub mod Conditions
pub mod Passed
