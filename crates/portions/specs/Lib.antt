-- Portions: what is asked of portions. Bounds: values by the numbers that bound them. Lists: what a reading tells. Tags: how values are
-- told apart at once.
pub mod Portions
pub mod Bounds
pub mod Lists
pub mod Tags
