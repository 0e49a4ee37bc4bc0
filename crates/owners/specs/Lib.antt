-- Owner: which portion of which element a text unit represents, as the code finds it in the rows.
pub mod Owner
