-- Sizes: how long an index is for how many elements. Promises: a value of what is promised.
pub mod Sizes
pub mod Promises
