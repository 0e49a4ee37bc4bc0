-- Table: the lent table. Filling: what the code that fills it has done. Answers: what each question answers. Related: the children of a row.
-- Short: the mailroom's normal form question.
-- Dates: the date of the document. FirstDates: the same by the first element alone. Dating: what their work learns. Asking: what the work
-- behind the others learns. Text: the whole reading; TextSteps: what its work learns. Sources: where each octet of it stands.
-- Questions: what the work of any of these leaves.
pub mod Table
pub mod Filling
pub mod Answers
pub mod Related
pub mod Text
pub mod Sources
pub mod Short
pub mod Dates
pub mod FirstDates
pub mod Dating
pub mod Asking
pub mod TextSteps
pub mod Questions
-- Orders: 26 by the rows.
pub mod Orders
