-- Letter: a stream by rules 1 to 15, and what is promised of its table. For the code alone, Scratch: what the judge gives, the rows of
-- a letter; Telling: what these tell of its elements; Lent: what the judge is lent; Numbers: that a row can be kept; Content: where the content of one
-- element stands. Apart: elements beside one another.
pub mod Letter
pub mod Scratch
pub mod Lent
pub mod Numbers
pub mod Content
pub mod Apart
pub mod Telling
