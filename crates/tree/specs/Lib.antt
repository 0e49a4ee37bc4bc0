pub mod Tree
pub mod ItemAndRun
pub mod Accepts
-- what a type field says, and that it alone says it
pub mod TypeFields
