pub mod Normal
pub mod Forms
pub mod Passes
pub mod Writes
pub mod Examples
pub mod Short
