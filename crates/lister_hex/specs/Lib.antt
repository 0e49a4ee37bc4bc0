pub mod Lines
pub mod Blocks
pub mod Promise
pub mod Spelling
pub mod Examples
