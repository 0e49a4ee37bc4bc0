-- Parent: the parent and the children of a row, and what is promised of them. For the code alone, Lookup: what it learns of a row's parent.
pub mod Parent
pub mod Lookup
