-- Rows: how long a row is, and the name spaces. For the code alone, Columns: what is read of a row; Chains: a chained hash of the rows' values, and
-- what is found in it; Order: lists of numbers in the order of a dictionary; Lookup: rows in the order of their names, and how they join the chains;
-- Index: both in one slice, and the indexes of a letter.
pub mod Rows
pub mod Columns
pub mod Chains
pub mod Order
pub mod Lookup
pub mod Index
