-- the state, what one octet more does to it, and the fold
pub mod Engine
-- the three questions: start, take, close
pub mod Blocks
-- what a state stands for: the walk from there
pub mod Resume
-- letters that are cut, and what the close tells
pub mod Examples
