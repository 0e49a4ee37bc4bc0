-- Spelling: a unit identifier is an identifier. Fitting: what it is that no entry is refused. Octets: the letter from front to back is the
-- letter. Steps: an entry more. Putting: its pieces, written one after another. Sizes: how long they are. Lent: entries that lie in the
-- buffer. Flat: entries as numbers. Keeping: a row more. Ruling: the rules of an
-- entry. Judging: the judge between two entries. Making: what the question answers, case by case.
pub mod Spelling
pub mod Fitting
pub mod Octets
pub mod Steps
pub mod Putting
pub mod Sizes
pub mod Lent
pub mod Flat
pub mod Keeping
pub mod Ruling
pub mod Judging
pub mod Making
