-- The children of a row are the rows whose parent it is, exactly these, in stream order and none twice: each row is tried in turn. Of any elements.
use mathlib.Core.Path.{◌≡◌, refl, ap, ◌∙◌}
use mathlib.Core.Bool.{Bool, true, false, false≢true}
use mathlib.Core.List.{List, Memᴰ}
use mathlib.Core.Option.{Option, none, some}
use Prim.Native.Nat.{ℕ, ◌+◌, ◌<◌, ◌≤◌}
use native.Mathlib.Omega.{arith}
use lib.ListN.{length, get_elem?}
use borrow.Author.Tests.{eqb-true, eq-eqb}
use Rattle.elements.specs.Judge.{Element}
use Rattle.reading.specs.Match.{only}
use Rattle.reading.specs.Lists.{Sorted, Once}
use Rattle.reading.proofs.Lists.{sorted-once}
use Rattle.reading.proofs.Each.{only-in, only_out, only-sorted, each-out, each_in, each-sorted, each-few}
use Rattle.parents.specs.Parent.{parent_of, parent, is_row, children}

is-row : (o : Option ℕ) (row : ℕ) → is_row o row ≡ true → o ≡ some row
is-row none row e = absurd (false≢true e)
is-row (some p) row e = ap some (eqb-true p row e)

row_is : (o : Option ℕ) (row : ℕ) → o ≡ some row → is_row o row ≡ true
row_is o row e = rw e (eq-eqb row row refl)

only-few : (test : Bool) (j : ℕ) → length (only test j) ≤ 1
only-few true j = omega arith
only-few false j = omega arith

module _ (elements : List Element) (row : ℕ) where
  abbrev listed : ℕ → Element → List ℕ
  listed j element = only (is_row (parent elements j) row) j

  -- a row that is listed is a child,
  pub children-are : (j : ℕ) → Memᴰ j (children elements row) → parent elements j ≡ some row
  unfolding children
  children-are j m =
      let o = each-out listed 0 elements j m in
      let r = only_out (is_row (parent elements (0 + o.place)) row) (0 + o.place) j o.from in
      ap (parent elements) r.1 ∙ is-row (parent elements (0 + o.place)) row r.0

  child_there : (j : ℕ) (o : Option Element) → get_elem? elements j ≡ o → parent_of elements o ≡ some row → (x : Element) × (get_elem? elements j ≡ some x)
  child_there j none there e = let z : ◌≡◌ {A = ℕ} 0 1 = cc in absurd (omega arith)
  child_there j (some x) there e = (x, there)

  child-element : (j : ℕ) → parent elements j ≡ some row → (x : Element) × (get_elem? elements j ≡ some x)
  unfolding parent
  child-element j e = child_there j (get_elem? elements j) refl e

  -- a child is listed,
  pub children-all : (j : ℕ) → parent elements j ≡ some row → Memᴰ j (children elements row)
  unfolding children
  children-all j e =
      let x = child-element j e in
      let z : 0 + j ≡ j = omega arith in
      each_in listed 0 elements j j x.0 x.1 (rw z (only-in (is_row (parent elements j) row) j (row_is (parent elements j) row e)))

  -- in stream order,
  pub children-sorted : Sorted ◌<◌ (children elements row)
  unfolding children
  children-sorted =
      each-sorted listed ◌<◌ (λ j x. only-sorted ◌<◌ (is_row (parent elements j) row) j)
      (λ i k x z y w l a b.
      let f = (only_out (is_row (parent elements i) row) i y a).1 in
      let g = (only_out (is_row (parent elements k) row) k w b).1 in
      omega arith)
      0 elements

  -- none twice,
  pub children-once : Once (children elements row)
  children-once = sorted-once ◌<◌ (λ j l. omega arith) (children elements row) children-sorted

  -- and no more than there are elements
  pub children-few : length (children elements row) ≤ length elements
  unfolding children
  children-few = each-few listed (λ j x. only-few (is_row (parent elements j) row) j) 0 elements
