-- a rule of a table by one computed test
pub mod Table
-- the rules of the tables
pub mod Rules
-- sets by their numbers, and what is none
pub mod Known
-- the octets of a code point, and of a sign
pub mod Utf8
-- the signs from a place on
pub mod Next
-- ASCII is shown as it is
pub mod Plain
-- what is known of a step
pub mod Going
-- what was measured decides the answer
pub mod Answers
