-- the equations of a decimal number, and what a reader expects of one
pub mod Decimal
-- one run of stores after another, and a line as one run
pub mod Stores
-- the output that document 01 prints
pub mod Printed
