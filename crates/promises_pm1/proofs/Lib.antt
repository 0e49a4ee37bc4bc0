-- Tables: every essential pair is within a non-essential one. Refusals: demand 1. Promises, Editions: values of what is promised. Examples: bodies and
-- the verdict on each.
pub mod Tables
pub mod Refusals
pub mod Promises
pub mod Editions
pub mod Examples
