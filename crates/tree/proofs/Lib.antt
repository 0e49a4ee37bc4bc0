-- that octets stand at a place of a stream
pub mod Here
-- a type field and its code
pub mod Types
-- one class, form and number has one type field, and no shorter one
pub mod TypeFields
-- what a header that was read tells of the octets there
pub mod Heads
-- what the walk accepts is coded so
pub mod Sound
-- what is coded so the walk accepts
pub mod Complete
-- the theorems: accepted is what X.209 says, and one stream codes one tree
pub mod Meaning
-- X.209's account with items and runs apart says the same
pub mod ItemAndRun
