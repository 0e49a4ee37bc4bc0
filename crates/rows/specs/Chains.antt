-- An index of the values that the rows of a table have at one column: a chain of rows for each bucket of their hashes.
-- `head` has for each bucket its last row, `next` for each row the one before it in its bucket; a row is stored as its number and 1, none as 0.
use Rattle.std.specs.Prelude.{◌≡◌, Bool, ◌&&◌, List, ◌⊎◌, ℕ, ◌+◌, ◌-◌, ◌<◌, ◌≤◌, eqb, length, get_or, Option, Some, None}
use Rattle.names.specs.Names.{same}
use Rattle.names.specs.Hash.{hashes, hash, bucket}
use Rattle.rows.specs.Columns.{kind_at, value_at, Present}
use Rattle.rows.specs.Rows.{name_space_of}

-- the bucket of row j's value
abbrev pub bucket_at : (s rows : List ℕ) (column buckets j : ℕ) → ℕ
bucket_at s rows column buckets j = bucket buckets (hash (value_at s rows column j))

-- v is one more than the last row below n that has a value in bucket b, or 0 if there is none
pub record Newest (s rows : List ℕ) (column buckets b n v : ℕ) : Type 0 where
  pub within : v ≤ n
  pub present : 0 < v → Present rows column (v - 1)
  pub bucketed : 0 < v → bucket_at s rows column buckets (v - 1) ≡ b
  pub none_later : (j : ℕ) → v ≤ j → j < n → Present rows column j → bucket_at s rows column buckets j ≡ b → ⊥

-- head and next index the first n rows; there are as many buckets as heads
pub record Indexed (s rows : List ℕ) (column : ℕ) (head next : List ℕ) (n : ℕ) : Type 0 where
  pub some_buckets : 0 < length head
  pub few_buckets : length head ≤ hashes
  pub linked : n ≤ length next
  pub heads : (b : ℕ) → b < length head → Newest s rows column (length head) b n (get_or head b 0)
  pub nexts : (j : ℕ) → j < n → Present rows column j
      → Newest s rows column (length head) (bucket_at s rows column (length head) j) j (get_or next j 0)

-- row n is linked before the others of bucket b, or not at all; nothing else changes
pub record Links (head next head' next' : List ℕ) (b n : ℕ) : Type 0 where
  pub other_heads : (a : ℕ) → (a ≡ b → ⊥) → get_or head' a 0 ≡ get_or head a 0
  pub other_links : (i : ℕ) → (i ≡ n → ⊥) → get_or next' i 0 ≡ get_or next i 0
  pub own : (get_or head' b 0 ≡ get_or head b 0) ⊎ ((get_or head' b 0 ≡ n + 1) × (get_or next' n 0 ≡ get_or head b 0))

-- no row is indexed yet
abbrev pub Empty : (head : List ℕ) → Type 0
Empty head = (b : ℕ) → b < length head → get_or head b 0 ≡ 0

-- row j, below n, has these bytes at the column and is of this name space
pub record Has (s rows : List ℕ) (column n name_space : ℕ) (bytes : List ℕ) (j : ℕ) : Type 0 where
  pub below : j < n
  pub present : Present rows column j
  pub of_space : name_space_of (kind_at rows j) ≡ name_space
  pub of_bytes : value_at s rows column j ≡ bytes

-- the last two as a test
abbrev pub named : (s rows : List ℕ) (column name_space : ℕ) (bytes : List ℕ) (j : ℕ) → Bool
named s rows column name_space bytes j = eqb (name_space_of (kind_at rows j)) name_space && same bytes (value_at s rows column j)

-- what a look-up answers: the last such row, or that there is none
abbrev pub FindsRow : (s rows : List ℕ) (column n name_space : ℕ) (bytes : List ℕ) → Option ℕ → Type 0
FindsRow s rows column n name_space bytes (Some j) = Has s rows column n name_space bytes j × ((k : ℕ) → j < k → Has s rows column n name_space bytes k → ⊥)
FindsRow s rows column n name_space bytes None = (k : ℕ) → Has s rows column n name_space bytes k → ⊥
