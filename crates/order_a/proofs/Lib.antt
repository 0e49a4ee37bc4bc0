-- Standing: one element more. Passing: the pass from its start to its end. Stepping: the same of whatever elements the rows tell.
pub mod Standing
pub mod Passing
pub mod Stepping
-- Steps: a step over what is seen is the step of the definition. Table: the table of ranks.
pub mod Table
pub mod Steps
-- Records: what the records of a side tell of an element after those before it. Slots: the number by which a unit is ordered. Owning: what an
-- owner tells is so. Numbers: what the code's numbers say of that number. Reaching: portions counted on.
pub mod Records
pub mod Slots
pub mod Owning
pub mod Numbers
pub mod Reaching
