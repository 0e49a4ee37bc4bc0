-- Made: the slots of every shape are well made. Looking: the look-up of a shape. Bounding: what was found of an item, as bounds or as a run. Zero: no
-- item has octet 0. Holding: what holds the content. Framing: the top of an element. Values: what bounds tell of a value. Findings: rules 12 to 14 by
-- what was found. Relisting: portions read again. Passing: the row of an element that passes. Seeing: what is seen of any. Slotting: the same by shape
-- and by slots. Refusals: rules 9 to 15 of one, taken apart.
pub mod Made
pub mod Looking
pub mod Bounding
pub mod Zero
pub mod Holding
pub mod Framing
pub mod Values
pub mod Findings
pub mod Relisting
pub mod Passing
pub mod Seeing
pub mod Slotting
pub mod Refusals
