-- Writing: the writer's answers in the question's words. Short: the mailroom's question. Lent: the same in lent scratch.
pub mod Writing
pub mod Short
pub mod Lent
