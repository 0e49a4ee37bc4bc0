pub mod Utf8
pub mod Sets
pub mod Pairs
pub mod Signs
pub mod Steps
pub mod Answers
