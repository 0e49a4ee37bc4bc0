-- Places: the items on the path with their places, and what a pass tells of them. Trees: they are the items of the tree. Answers: what the
-- code answers is the date in it. Real: that is a day that exists, spelt in the document's own octets, and the tree alone decides it.
-- Examples: the definitions on octets.
pub mod Places
pub mod Trees
pub mod Answers
pub mod Real
pub mod Examples
