-- Levels: an item that is met leaves a level less. Only: whether all are pieces, told by the item that is met. Joined: the pieces joined,
-- told by it, and no longer than the run. Putting: the pieces put one after another.
pub mod Levels
pub mod Only
pub mod Joined
pub mod Putting
