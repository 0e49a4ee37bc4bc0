-- Text: the texts of matches one after another, and their lines. For the code alone, Flat: texts and lines as numbers.
pub mod Text
pub mod Flat
