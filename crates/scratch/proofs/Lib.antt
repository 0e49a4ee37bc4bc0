-- Arrays: arrays of zeros are the scratch that the judge asks for.
pub mod Arrays
