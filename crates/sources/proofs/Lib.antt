-- Places: the places of a run, told by the item that is met; what stands at them is the joined content, and they ascend in the run. Filling: numbers put to
-- a lent list, some at a time. Putting: the records of a run put so. Units: what stands at the places of an element is its content, and they lie in its
-- row's content fields. Among: the places of all elements ascend in the stream, so no two share an octet. Holders: what holds a content has its places.
-- Sides: the sources of the lines of a side, line by line. Origins: each octet at some places is one of the stream, and none is twice. Lines: the sources
-- of lines, whatever the places of units are. Promise: a value of what is promised. Examples: two letters,
-- computed.
pub mod Places
pub mod Filling
pub mod Putting
pub mod Units
pub mod Among
pub mod Holders
pub mod Sides
pub mod Origins
pub mod Lines
pub mod Promise
pub mod Examples
