-- The rows of a table from one on, in the order of their name spaces and their values at a column; equal ones in the order of the table.
-- `next` is the links of an index by hash for the rows before that one, and from there on the numbers of the rows in order.
-- Its last number is 0 while all rows are in chains, and then one more than how many are.
use Rattle.std.specs.Prelude.{◌≡◌, true, false, cond, List, ◌∷◌, ℕ, zero, suc, ◌-◌, ◌<◌, ◌≤◌, eqb, length, get_or, Option, Some, None}
use Rattle.rows.specs.Rows.{name_space_of}
use Rattle.rows.specs.Columns.{kind_at, value_at}
use Rattle.rows.specs.Chains.{Indexed, Has, FindsRow}
use Rattle.rows.specs.Order.{less}

-- what row j is ordered by; a row with no value there has the name space alone
abbrev pub key_at : (s rows : List ℕ) (column j : ℕ) → List ℕ
key_at s rows column j = name_space_of (kind_at rows j) ∷ value_at s rows column j

-- row j goes before row k
pub record Goes (s rows : List ℕ) (column j k : ℕ) : Type 0 where
  pub at_most : less (key_at s rows column k) (key_at s rows column j) ≡ false
  pub settled : key_at s rows column j ≡ key_at s rows column k → j < k

-- where row j stands among the places from `from` to n
pub record Stands (next : List ℕ) (from n j : ℕ) : Type 0 where
  pub place : ℕ
  pub after : from ≤ place
  pub before : place < n
  pub row : get_or next place 0 ≡ j

-- the rows from `from` to n stand in order at these same places
pub record Ordered (s rows : List ℕ) (column : ℕ) (next : List ℕ) (from n : ℕ) : Type 0 where
  pub begins : from ≤ n
  pub fits : n ≤ length next
  pub later : (i : ℕ) → from ≤ i → i < n → from ≤ get_or next i 0
  pub below : (i : ℕ) → from ≤ i → i < n → get_or next i 0 < n
  pub sorted : (i k : ℕ) → from ≤ i → i < k → k < n → Goes s rows column (get_or next i 0) (get_or next k 0)
  pub each : (j : ℕ) → from ≤ j → j < n → Stands next from n j

-- a search among them for the place of a key: what stands before `low` does not come after the key, what stands from `high` on does
pub record Between (s rows : List ℕ) (column : ℕ) (next : List ℕ) (from n : ℕ) (key : List ℕ) (low high : ℕ) : Type 0 where
  pub starts : from ≤ low
  pub narrows : low ≤ high
  pub ends : high ≤ n
  pub before : (i : ℕ) → from ≤ i → i < low → less key (key_at s rows column (get_or next i 0)) ≡ false
  pub after : (i : ℕ) → high ≤ i → i < n → less key (key_at s rows column (get_or next i 0)) ≡ true

-- what a search among them answers: the last row with the bytes, or that none of them has these
abbrev pub FindsFrom : (s rows : List ℕ) (column from n name_space : ℕ) (bytes : List ℕ) → Option ℕ → Type 0
FindsFrom s rows column from n name_space bytes (Some j) = FindsRow s rows column n name_space bytes (Some j)
FindsFrom s rows column from n name_space bytes None = (k : ℕ) → from ≤ k → Has s rows column n name_space bytes k → ⊥

-- the last number, and how many of the first n rows are in chains
abbrev pub mark_of : (next : List ℕ) → ℕ
mark_of next = get_or next (length next - 1) 0

abbrev pub chained : (next : List ℕ) (n : ℕ) → ℕ
chained next n = cond (eqb (mark_of next) 0) n (mark_of next - 1)

-- most rows that a chain has
abbrev pub longest_chain : ℕ
longest_chain = 8

-- a chain that begins with a link has at most so many rows
unfoldable pub AtMost : (next : List ℕ) (most link : ℕ) → Type 0
AtMost next zero link = link ≡ 0
AtMost next (suc most) link = 0 < link → AtMost next most (get_or next (link - 1) 0)

-- the first n rows can be looked up: some by their hash, those after them in order
pub record FiledIn (s rows : List ℕ) (column : ℕ) (head next : List ℕ) (n : ℕ) : Type 0 where
  pub room : n < length next
  pub by_hash : Indexed s rows column head next (chained next n)
  pub in_order : Ordered s rows column next (chained next n) n
  pub short : (b : ℕ) → b < length head → AtMost next longest_chain (get_or head b 0)

-- what stood from p to n stands one place further
pub record Shifted (next next' : List ℕ) (p n : ℕ) : Type 0 where
  pub size : length next' ≡ length next
  pub before : (i : ℕ) → i < p → get_or next' i 0 ≡ get_or next i 0
  pub moved : (i : ℕ) → p < i → i ≤ n → get_or next' i 0 ≡ get_or next (i - 1) 0
  pub beyond : (i : ℕ) → n < i → get_or next' i 0 ≡ get_or next i 0

-- the links are those of an index, of whatever rows
pub record Linked (head next : List ℕ) (n : ℕ) : Type 0 where
  pub s : List ℕ
  pub rows : List ℕ
  pub column : ℕ
  pub indexed : Indexed s rows column head next n

-- nothing before `from` or after n has changed
pub record Around (next next' : List ℕ) (from n : ℕ) : Type 0 where
  pub size : length next' ≡ length next
  pub before : (i : ℕ) → i < from → get_or next' i 0 ≡ get_or next i 0
  pub beyond : (i : ℕ) → n < i → get_or next' i 0 ≡ get_or next i 0
