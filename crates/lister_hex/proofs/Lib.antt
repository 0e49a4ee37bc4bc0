-- what feeding byte by byte adds up to
pub mod Blocks
-- what one pair or one newline more does to the reading of lines
pub mod Lines
-- the promise: a text fed in any cutting is answered as the whole text reads
pub mod Promise
-- octets spelt as pairs read back
pub mod Spelling
-- worked examples, in one statement
pub mod Examples
