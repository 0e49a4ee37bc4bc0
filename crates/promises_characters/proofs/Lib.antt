-- Small: every code point of the tables is below the surrogates. Fine: each sign is shown by scalar values, in eight octets at most. Cutting: where
-- a text may be cut, and when two octets are one sign. Places: the map of places. Promises: the promises hold. Examples: the examples hold.
pub mod Small
pub mod Fine
pub mod Cutting
pub mod Places
pub mod Promises
pub mod Examples
