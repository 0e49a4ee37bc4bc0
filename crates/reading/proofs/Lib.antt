-- The theorems: Matches: the list holds the matches, in order, none twice. Single: in an accepted letter a portion has one unit and a unit
-- one match; no more matches than units, or portions. Wrong: what the contract rules out. Examples: small letters, computed.
-- Laws: Lists: lists in order, with nothing twice. Each: what is listed for each of a list. OnePlace: what a name tells in an accepted letter.
-- Made: the list while it is filled. Putting: records put one after another. Looking: a look-up yields the matches of a portion.
-- Listing, Turning: what is known while the portions, and the elements, are taken in turn. Scratch: what is put by the rows of a letter is its list.
pub mod Made
pub mod Putting
pub mod Lists
pub mod Each
pub mod OnePlace
pub mod Matches
pub mod Single
pub mod Looking
pub mod Listing
pub mod Turning
pub mod Scratch
pub mod Wrong
pub mod Examples
