pub mod Search
pub mod First
pub mod Opening
pub mod Gather
