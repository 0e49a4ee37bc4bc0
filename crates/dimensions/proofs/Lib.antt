-- Items: what an A4 holds, by its first items. Bodies: a body by what was found in it; every verdict is 4 at most.
pub mod Items
pub mod Bodies
