-- Entries: what is lent, what it says, and its refusals. Stream: the letter that is made of it. Answers: what the question answers.
-- For the code alone, Flat: entries as numbers; Octets: the letter from front to back, with no tree; Keeps: what
-- scratch keeps; Lent: what is known of entries that fit.
pub mod Entries
pub mod Stream
pub mod Answers
pub mod Flat
pub mod Octets
pub mod Lent
pub mod Keeps
