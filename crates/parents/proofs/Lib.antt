-- The theorems: Parents: the parent carries the shorter identifier, and none is missed. Climbing: climbing ends, and no row is its own ancestor.
-- Children: the children of a row, exactly these, in order, none twice.
-- Laws: Shorter: an identifier without its last group. Firsts: the first element that passes a test. Finding: what a look-up yields is the parent.
pub mod Shorter
pub mod Firsts
pub mod Finding
pub mod Parents
pub mod Climbing
pub mod Children
