-- Seeing: a step by what the rows tell of an element is the step of the definition. Passing: the pass from an element on.
pub mod Seeing
pub mod Passing
