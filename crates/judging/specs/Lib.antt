-- Done: what the scratch holds of the elements that are done. Judges: what the code learns of one element.
pub mod Done
pub mod Judges
