-- Flat: matches and lines from numbers in scratch. Putting: texts put one after another. Fits: the texts of a side are no longer than the stream.
pub mod Flat
pub mod Putting
pub mod Fits
