-- Cleared: lent scratch with a cleared index is what the judge of a stream asks for. Ruling: what refuses a stream, case by case.
pub mod Cleared
pub mod Ruling
