-- Parts: how a part of a list begins and where it is cut. Spelling: what the length of a name decides of its spelling.
-- Same: what it is to be the same, in parts too. Joined: a joined name tells its parts.
-- Hashing: two parts, and the bounds of hashes and buckets. Examples: spellings, computed.
pub mod Parts
pub mod Spelling
pub mod Same
pub mod Joined
pub mod Hashing
pub mod Examples
