-- Shape: the element table as data. Judge: what an element says, and rules 9 to 15 of a letter. ElementRows: what a row holds. For the code alone,
-- Slots: a shape as it looks for it; WellMade: what it relies on in one; Says: what a row tells of its element; Frames, Sees: what it learns of one;
-- ShapeRefusal: the first of rules 12 to 14 that refuses one.
pub mod Shape
pub mod Judge
pub mod ShapeRefusal
pub mod ElementRows
pub mod Slots
pub mod WellMade
pub mod Says
pub mod Frames
pub mod Sees
