-- Demands: what is promised. Refusals: when each of 1 to 15 is given. Kept: what the normal form keeps, row by row. Family: parents and
-- children. SameLetter: when two files are the same letter. Mailroom: the mailroom's normal form. DocumentDate: the date of the document.
-- FirstDate: the same by the first element alone. Order: the order of a letter beside the rules. Editions: the two editions beside each
-- other. Examples: the starred examples of document 01.
pub mod Refusals
pub mod Demands
pub mod Kept
pub mod Family
pub mod SameLetter
pub mod Mailroom
pub mod DocumentDate
pub mod FirstDate
pub mod Editions
pub mod Order
pub mod Examples
