pub mod Walk
pub mod Rules
pub mod Further
pub mod Told
pub mod Values
pub mod Examples
