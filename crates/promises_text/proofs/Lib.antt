-- Places: where a line and its text stand among all. Kept: what the pieces show is told by the tree alone. NoStaleText, Sources:
-- values of what is promised. Wrong: wrong programs that these rule out.
pub mod Places
pub mod Kept
pub mod NoStaleText
pub mod Sources
pub mod Wrong
