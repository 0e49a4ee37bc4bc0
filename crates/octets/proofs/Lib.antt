pub mod Told
pub mod Walks
pub mod Turns
pub mod Ones
pub mod RulesHold
pub mod Half
pub mod Numbers
pub mod Examples
