-- lines that are put one after another on a page
pub mod Pages
-- what the answers of the check and of the list give to print
pub mod Letters
-- what is printed of what was read
pub mod Inputs
-- document 01's printed example
pub mod Printed
