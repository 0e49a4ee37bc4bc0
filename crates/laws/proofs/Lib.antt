-- Tests: what holds of the case that a test picks. Writes: numbers written one after another into a list. Parts: a part that is overwritten.
pub mod Tests
pub mod Writes
pub mod Parts
