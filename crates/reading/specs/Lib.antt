-- Match: the matches of a side, and what is promised of them. Lists: lists in order, and with nothing twice. For the code alone, Records: the
-- lent list as numbers; Ready: the matches that are looked up by the rows of a letter.
pub mod Match
pub mod Lists
pub mod Records
pub mod Ready
