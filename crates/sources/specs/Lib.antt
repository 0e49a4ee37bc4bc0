-- Places: where the pieces of a content stand. Units: the places of the content of each element of a stream. Sources: the places of all lines of a
-- side, as records of three numbers. Promise: what is promised of them. For the code alone, Steps: what it learns.
pub mod Places
pub mod Units
pub mod Sources
pub mod Promise
pub mod Steps
