-- Names: how identifiers and portion numbers are spelt and compared. Asked: a name that is looked for. Hash: the hash by which it is found.
pub mod Names
pub mod Asked
pub mod Hash
