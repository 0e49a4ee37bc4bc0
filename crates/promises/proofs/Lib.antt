-- Demand1, Demand2, Demand3: a value of each demand. Refusals: when each of 1 to 15 is given. Alone: each element's octets code it
-- alone. Telling: a row tells what its element says.
-- Joining: of the content. Locating: where a part stands. Kept: what the normal form keeps, row by row. Family: parents and children. SameLetter: when
-- two files are the same letter. Mailroom: the mailroom's normal form. DocumentDate, FirstDate: the date of the document, and by the first element
-- alone. Order: the order of a letter beside the rules. OneElement: an element read by both editions. Editions: the two beside each other. Examples:
-- the examples hold. Determined: two outcomes of one contract are equal. Accepted: what a crate that is built upon the check may know of an accepted
-- stream. Wrong: the wrong programs of document 01 meet no contract.
pub mod Demand1
pub mod Refusals
pub mod Alone
pub mod Telling
pub mod Joining
pub mod Locating
pub mod Demand2
pub mod Demand3
pub mod Kept
pub mod Family
pub mod SameLetter
pub mod Mailroom
pub mod DocumentDate
pub mod FirstDate
pub mod OneElement
pub mod Editions
pub mod Order
pub mod Examples
pub mod Determined
pub mod Accepted
pub mod Wrong
