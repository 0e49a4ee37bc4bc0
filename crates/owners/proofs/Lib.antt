-- Finding: what is found for a unit is its record. Telling: what the rows tell of an element, and what is known while its portions are met.
-- Among: which of some portions has given octets. Cutting: an identifier that is cut at its last space.
pub mod Telling
pub mod Among
pub mod Cutting
pub mod Finding
