-- Reads: how a letter that is made reads. Editions: what is asked of an edition for it. Promises: what is promised of all that.
-- Examples: what is made of some entries.
pub mod Reads
pub mod Editions
pub mod Promises
pub mod Examples
