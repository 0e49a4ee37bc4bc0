-- Numbers: the pages by a finished table are the letter's. Counting: how many there are by the table. Putting: records put one after another.
-- Going: the pass over the elements. Outcomes: the answer, case by case.
pub mod Numbers
pub mod Counting
pub mod Putting
pub mod Going
pub mod Outcomes
