-- How long an index is for how many elements: a choice between rising sizes, one test after another.
use mathlib.Core.Path.{◌≡◌, refl}
use mathlib.Core.Logic.{◌⊎◌, inl, inr}
use mathlib.Core.Bool.{cond}
use Prim.Native.Nat.{ℕ, ◌+◌, ◌<◌, ◌≤◌}
use native.Mathlib.Omega.{arith}
use lib.Dec.{leb}
use borrow.Author.Tests.{leb-true, leb-false, le-leb}
use borrow.Table.Steps.{cases}
use Rattle.lent.specs.Lent.{rows_for, size_for, index_for}

-- a choice of k for what is at most k, and of another size for the rest
abbrev choice : (k : ℕ) → (ℕ → ℕ) → ℕ → ℕ
choice k f n = cond (leb n k) k (f n)

abbrev Grows : (ℕ → ℕ) → Type 0
Grows f = (m n : ℕ) → m ≤ n → f m ≤ f n

abbrev FromOn : (k : ℕ) → (ℕ → ℕ) → Type 0
FromOn k f = (n : ℕ) → k ≤ f n

module _ (k : ℕ) (f : ℕ → ℕ) where
  choice-from : (j : ℕ) → j ≤ k → FromOn j f → FromOn j (choice k f)
  choice-from j l from n = cases (leb n k) (λ t. rw t l) (λ t. rw t (from n))

  choice-grows : FromOn k f → Grows f → Grows (choice k f)
  choice-grows from grows m n l =
      cases (leb n k)
      (λ t.
      let below = leb-true n k t in
      rw (t, le-leb m k (omega arith)) (omega arith))
      (λ t. rw t (cases (leb m k) (λ u. rw u (from n)) (λ u. rw u (grows m n l))))

abbrev from_2048 : ℕ → ℕ
from_2048 = choice 2048 (λ n. 4096)

abbrev from_1024 : ℕ → ℕ
from_1024 = choice 1024 from_2048

abbrev from_512 : ℕ → ℕ
from_512 = choice 512 from_1024

abbrev from_256 : ℕ → ℕ
from_256 = choice 256 from_512

abbrev from_128 : ℕ → ℕ
from_128 = choice 128 from_256

last-from : (j : ℕ) → j ≤ 2048 → FromOn j from_2048
last-from j l = choice-from 2048 (λ n. 4096) j l (λ n. omega arith)

from-1024-on : (j : ℕ) → j ≤ 1024 → FromOn j from_1024
from-1024-on j l = choice-from 1024 from_2048 j l (last-from j (omega arith))

from-512-on : (j : ℕ) → j ≤ 512 → FromOn j from_512
from-512-on j l = choice-from 512 from_1024 j l (from-1024-on j (omega arith))

from-256-on : (j : ℕ) → j ≤ 256 → FromOn j from_256
from-256-on j l = choice-from 256 from_512 j l (from-512-on j (omega arith))

from-128-on : (j : ℕ) → j ≤ 128 → FromOn j from_128
from-128-on j l = choice-from 128 from_256 j l (from-256-on j (omega arith))

-- for more elements an index is no shorter
pub size-grows : (m n : ℕ) → m ≤ n → size_for m ≤ size_for n
size-grows =
    choice-grows 64 from_128 (from-128-on 64 (omega arith))
    (choice-grows 128 from_256 (from-256-on 128 (omega arith))
    (choice-grows 256 from_512 (from-512-on 256 (omega arith))
    (choice-grows 512 from_1024 (from-1024-on 512 (omega arith))
    (choice-grows 1024 from_2048 (last-from 1024 (omega arith))
    (choice-grows 2048 (λ n. 4096) (λ n. omega arith) (λ m n l. omega arith))))))

pub rows_grow : (m n : ℕ) → m ≤ n → rows_for m ≤ rows_for n
rows_grow m n l = omega arith

pub index-grows : (m n : ℕ) → m ≤ n → index_for m ≤ index_for n
index-grows m n l = omega (arith, size-grows m n l)

-- an index is made for less than twice as many elements as there are: where the sizes before are too small, n is more than half the next one
tight-by : (j k : ℕ) (f : ℕ → ℕ) (n : ℕ) → k ≡ j + j → j < n → (k < n → f n < n + n) → choice k f n < n + n
tight-by j k f n twice over rest =
    cases (leb n k) (λ t. rw t (omega (arith, twice, over))) (λ t. rw t (rest (leb-false n k t)))

pub size-tight : (n : ℕ) → (size_for n ≡ 64) ⊎ (size_for n < n + n)
size-tight n =
    cases (leb n 64)
    (λ t. inl (rw t refl))
    (λ t. inr (rw t (tight-by 64 128 from_256 n refl (leb-false n 64 t)
    (λ a. tight-by 128 256 from_512 n refl a
    (λ b. tight-by 256 512 from_1024 n refl b
    (λ c. tight-by 512 1024 from_2048 n refl c
    (λ d. tight-by 1024 2048 (λ m. 4096) n refl d (λ e. omega (arith, e)))))))))
