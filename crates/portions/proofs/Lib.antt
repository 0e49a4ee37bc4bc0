-- Pairs: a pair of bounds more, at the front and at the end. Meetings: what an item that is met says of a run of portions. Reading: what
-- is known at each item of a reading. Judging: what a reading decides. Tags: values that are told apart by their tags.
pub mod Pairs
pub mod Meetings
pub mod Reading
pub mod Judging
pub mod Tags
