-- ChainSearch: what a turn along a chain passes. ChainGrow: a row more in the chains. RowsKept: what a new row leaves as it was, and chains of none.
-- Less: the laws of the order, and of names in parts. Sorted: a search by halves, and a row more among those in order.
-- Finding: what stands at the place found is the last row with the name, or none of those in order has it.
-- Links: a walk along a chain, and how long it is. Filing: a row more, by hash or in order. FiledKept: what is written from row n on changes nothing.
-- Parts: heads and links in one slice. Halves: the two indexes of a letter in one slice.
pub mod ChainSearch
pub mod ChainGrow
pub mod RowsKept
pub mod Less
pub mod Sorted
pub mod Finding
pub mod Links
pub mod Filing
pub mod FiledKept
pub mod Parts
pub mod Halves
