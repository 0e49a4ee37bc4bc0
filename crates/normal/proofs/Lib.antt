-- a type field as it is written
pub mod Fields
-- length octets: how many, by the leading zeros, and how they are written
pub mod Lengths
-- the normal form codes the same tree
pub mod Normals
-- the theorems: the round trip, twice is once, equal normal forms are of equal trees
pub mod RoundTrip
-- octets that are as few as those of the normal form are those
pub mod Own
-- the theorem: no length octets are fewer
pub mod Fewest
-- the theorems: no definite stream is shorter, and within 65,535 octets none
pub mod Shorter
-- what a pass over a run that was walked to its end meets
pub mod Passes
-- a turn of the measuring
pub mod Measuring
-- a turn of the writing
pub mod Putting
-- what the writer gives; the theorems: determined, untouched
pub mod Answers
-- the examples hold
pub mod Examples
