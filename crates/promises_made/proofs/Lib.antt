-- Shapes: what the editions say of the three elements. Judging: no element of the letter is refused. Coding: its octets are coded as
-- X.209 says. Matching: its matches. Letters: the theorems on what is made. Refusals: those on refusals. Answering: those on the answer and
-- the output. Order: it is in the order of class B, and of class A only with at most one entry. Examples: the examples hold.
pub mod Shapes
pub mod Judging
pub mod Coding
pub mod Matching
pub mod Letters
pub mod Refusals
pub mod Answering
pub mod Order
pub mod Examples
