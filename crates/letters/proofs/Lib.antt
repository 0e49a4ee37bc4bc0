-- Grow: one row more in the scratch. State: the state of the judge. Meetings: what is inside a primitive item. Nested, Apart, Table: the table.
-- Standing: where element j stands. Fetching: where its content does. Telling: the rows of a letter tell of its elements. Letters: what a stream is, by its
-- walk and its judge.
pub mod Grow
pub mod State
pub mod Meetings
pub mod Nested
pub mod Apart
pub mod Table
pub mod Standing
pub mod Fetching
pub mod Telling
pub mod Letters
