pub mod Head
pub mod Passed
-- 2 to 8 as conditions, a line of the table each
pub mod Conditions
