-- Steps: what a step of the pass for class B must answer.
pub mod Steps
