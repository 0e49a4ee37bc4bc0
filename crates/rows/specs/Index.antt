-- The indexes as they are lent. An index is one slice: the heads of the chains and after them the links.
-- A letter has two: the first half of what is lent is that of the identifiers, the second that of the logical identifiers.
use Rattle.std.specs.Prelude.{◌≡◌, List, ℕ, ◌-◌, ◌/◌, ◌<◌, ◌≤◌, length, take, drop}
use Rattle.std.specs.Int.Bits.{bit_and}
use Rattle.names.specs.Hash.{hashes}
use Rattle.rows.specs.Columns.{identifier_column, logical_column}
use Rattle.rows.specs.Chains.{Empty}
use Rattle.rows.specs.Lookup.{mark_of, FiledIn}

-- where the links begin in an index of this size: one less, without its lowest bit. Of 3 * 2^k + 1 numbers 2 * 2^k are heads, two for each row.
unfoldable pub links_begin : (size : ℕ) → ℕ
links_begin size = bit_and (size - 1) (size - 2)

abbrev pub heads_of : (index : List ℕ) → List ℕ
heads_of index = take (links_begin (length index)) index

abbrev pub links_of : (index : List ℕ) → List ℕ
links_of index = drop (links_begin (length index)) index

-- the first n rows can be looked up in an index by what they have at a column
abbrev pub Filed : (s rows : List ℕ) (column : ℕ) (index : List ℕ) (n : ℕ) → Type 0
Filed s rows column index n = FiledIn s rows column (heads_of index) (links_of index) n

-- where the second index of a letter begins
abbrev pub half_of : (size : ℕ) → ℕ
half_of size = size / 2

abbrev pub identifier_index : (index : List ℕ) → List ℕ
identifier_index index = take (half_of (length index)) index

abbrev pub logical_index : (index : List ℕ) → List ℕ
logical_index index = drop (half_of (length index)) index

-- the first n rows can be looked up by either of their names
pub record BothFiled (s rows index : List ℕ) (n : ℕ) : Type 0 where
  pub identifiers : Filed s rows identifier_column (identifier_index index) n
  pub logicals : Filed s rows logical_column (logical_index index) n

-- either index has links for n rows
pub record HasLinks (index : List ℕ) (n : ℕ) : Type 0 where
  pub identifiers : n < length (links_of (identifier_index index))
  pub logicals : n < length (links_of (logical_index index))

-- an index with no row in it
pub record Unused (index : List ℕ) : Type 0 where
  pub some_heads : 0 < length (heads_of index)
  pub few_heads : length (heads_of index) ≤ hashes
  pub empty_heads : Empty (heads_of index)
  pub unmarked : mark_of (links_of index) ≡ 0
