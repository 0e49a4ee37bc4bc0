-- Lists: a list with one more. Rows: the numbers of rows. Clash: rule 15 by the index. Steps: the rules in three steps. Bare: an element in
-- which nothing stands.
pub mod Lists
pub mod Rows
pub mod Clash
pub mod Steps
pub mod Bare
