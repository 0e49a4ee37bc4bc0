pub mod Heads
pub mod Ends
pub mod Meetings
pub mod Laws
pub mod Again
