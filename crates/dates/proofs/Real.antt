-- A date that is answered is a day that exists, spelt in the document's own octets (`date-is-real`, `real-is-date`); every other answer is
-- 23 or 24 and nothing else (`else-empty`); its numbers are small (`found-small`); and the tree alone decides it (`determined`).
use mathlib.Core.Path.{◌≡◌, refl, ap, sym, ◌∙◌, subst}
use mathlib.Core.Logic.{◌⊎◌, inl, inr}
use mathlib.Core.Bool.{Bool, true, false}
use mathlib.Core.List.{List, [], ◌∷◌}
use Prim.Native.Nat.{ℕ, ◌≤◌}
use native.Mathlib.Omega.{arith}
use lib.Dec.{eqb}
use borrow.Author.Tests.{eqb-true, eqb-false}
use Rattle.tree.specs.Tree.{Tree}
use Rattle.runs.specs.declared.Run.{Run}
use Rattle.runs.specs.Runs.{tree_in}
use Rattle.calendar.specs.declared.Day.{Day}
use Rattle.calendar.specs.Calendar.{names_day}
use Rattle.calendar.specs.Named.{Names}
use Rattle.calendar.proofs.Named.{names, named, days-small}
use Rattle.std.specs.Prelude.{Result}
use Rattle.dates.specs.declared.DateFound.{DateFound}
use Rattle.dates.specs.Dates.{Date, DateItem, in_primitive, in_constructed, no_date_by, date_from, the_date, dates_in, date_in}
use Rattle.dates.specs.Finding.{Answers, date_told}

-- the value of a date that is not refused is the sole item's on the path, and names the day
pub record Given (t : Tree) (a : Date) : Type 0 where
  pub item : dates_in t ≡ in_primitive a.value ∷ []
  pub names_it : Names a.value a.day

dated-by : (value : List ℕ) (b : Bool) → names_day value ≡ b → (date_from value).number ≡ 0
    → ((date_from value).value ≡ value) × Names value (date_from value).day
unfolding date_from
dated-by value true e z = rw e (refl, names value e)
dated-by value false e z = absurd (omega (arith, (rw e at z)))

given-of : (items : List DateItem) → (the_date items).number ≡ 0
    → (items ≡ in_primitive (the_date items).value ∷ []) × Names (the_date items).value (the_date items).day
unfolding the_date
given-of [] z = absurd (omega arith)
given-of (in_primitive value ∷ []) z =
    let p = dated-by value (names_day value) refl z in
    (rw p.0, rw p.0 p.1)
given-of (in_constructed ∷ []) z = absurd (omega arith)
given-of (in_primitive value ∷ other ∷ more) z = absurd (omega arith)
given-of (in_constructed ∷ other ∷ more) z = absurd (omega arith)

-- a date that is not refused is the sole item's on the path; its day exists, and is spelt in the item's first ten octets
pub date-is-real : (t : Tree) → (date_in t).number ≡ 0 → Given t (date_in t)
date-is-real t z = let p = given-of (dates_in t) z in record { item = p.0; names_it = p.1 }

-- and a sole item that is primitive and so begins, is answered with that day
pub real-is-date : (t : Tree) (value : List ℕ) (d : Day) → dates_in t ≡ in_primitive value ∷ [] → Names value d
    → date_in t ≡ record { number = 0; value = value; day = d }
unfolding the_date date_from
real-is-date t value d e x = let n = named value d x in ap the_date e ∙ rw (n.0, n.1)

refused-of : (value : List ℕ) (b : Bool) → names_day value ≡ b → ((date_from value).number ≡ 0 → ⊥) → date_from value ≡ no_date_by 24
unfolding date_from
refused-of value true e n = absurd (n (rw e))
refused-of value false e n = rw e

-- every other answer is 23 or 24 with nothing else in it
empty_of : (items : List DateItem) → ((the_date items).number ≡ 0 → ⊥) → (the_date items ≡ no_date_by 23) ⊎ (the_date items ≡ no_date_by 24)
unfolding the_date
empty_of [] n = inl refl
empty_of (in_primitive value ∷ []) n = inr (refused-of value (names_day value) refl n)
empty_of (in_constructed ∷ []) n = inl refl
empty_of (in_primitive value ∷ other ∷ more) n = inl refl
empty_of (in_constructed ∷ other ∷ more) n = inl refl

pub else-empty : (t : Tree) → ((date_in t).number ≡ 0 → ⊥) → (date_in t ≡ no_date_by 23) ⊎ (date_in t ≡ no_date_by 24)
else-empty t n = empty_of (dates_in t) n

-- the numbers of a date are small
pub record Small (a : Date) : Type 0 where
  pub number : a.number ≤ 24
  pub year : a.day.year ≤ 9999
  pub month : a.day.month ≤ 12
  pub day : a.day.day ≤ 32

refused-small : (a : Date) → (a ≡ no_date_by 23) ⊎ (a ≡ no_date_by 24) → Small a
refused-small a (inl e) = subst Small (sym e) (record { number = omega arith; year = omega arith; month = omega arith; day = omega arith })
refused-small a (inr e) = subst Small (sym e) (record { number = omega arith; year = omega arith; month = omega arith; day = omega arith })

small_by : (t : Tree) (b : Bool) → eqb (date_in t).number 0 ≡ b → Small (date_in t)
small_by t true e =
    let z = eqb-true (date_in t).number 0 e in
    let r = (date-is-real t z).names_it.real in
    let d = (date_in t).day in
    let m = days-small d.year d.month in
    record { number = omega arith; year = r.last_year; month = r.last_month; day = omega (arith, r.last_day) }
small_by t false e = refused-small (date_in t) (else-empty t (eqb-false (date_in t).number 0 e))

-- what is answered of a run
pub found-small : {s : List ℕ} {r : Run} {a : Result DateFound ℕ} → Answers s r a → Small (date_told s a)
found-small {s} {r} x = subst Small x.date (small_by (tree_in s r) (eqb (date_in (tree_in s r)).number 0) refl)

-- the tree alone decides: of two streams with equal trees the number, the octets and the day are the same
pub determined : (s other : List ℕ) (r q : Run) (a b : Result DateFound ℕ) → tree_in s r ≡ tree_in other q → Answers s r a → Answers other q b
    → date_told s a ≡ date_told other b
determined s other r q a b e x y = sym x.date ∙ ap date_in e ∙ y.date
