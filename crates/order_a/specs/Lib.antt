-- Pass: what the pass sees, keeps and answers.
pub mod Pass
-- Step: one step of class A over numbers, as the code takes it.
pub mod Step
-- Turns: what the records of a unit tell in numbers, and how portions are counted.
pub mod Turns
