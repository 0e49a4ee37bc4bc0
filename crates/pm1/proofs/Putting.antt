-- The list as numbers, two a record: what is put of an element.
use mathlib.Core.Path.{◌≡◌, refl}
use mathlib.Core.Bool.{Bool, true, false}
use mathlib.Core.List.{List, [], ◌∷◌, ◌++◌}
use Prim.Native.Nat.{ℕ, ◌+◌, ◌*◌, ◌≤◌}
use native.Mathlib.Omega.{arith}
use lib.ListN.{length}
use lib.Seq.{sets}
use Rattle.reading.specs.Match.{only}
use Rattle.pm1.specs.Pages.{Page, page_width, page_numbers}
use Rattle.pm1.specs.ByTable.{Puts}

pub length-numbers : (pages : List Page) → length (page_numbers pages) ≡ page_width * length pages
unfolding page_numbers
length-numbers [] = refl
length-numbers (p ∷ pages) = let l = length-numbers pages in omega arith

pub numbers-append : (pages others : List Page) → page_numbers (pages ++ others) ≡ page_numbers pages ++ page_numbers others
unfolding page_numbers
numbers-append [] others = refl
numbers-append (p ∷ pages) others = rw (numbers-append pages others)

-- nothing is put of what is no page
pub puts_none : (list : List ℕ) (k : ℕ) (test : Bool) (page : Page) → test ≡ false → Puts list k (only test page) list k
unfolding page_numbers
puts_none list k test page e = rw e (record { counted = omega arith; stored = refl })

-- a page has room for its record, which is put by two stores
pub room-one : (count size : ℕ) (test : Bool) (page : Page) → test ≡ true → page_width * (count + length (only test page)) ≤ size
    → page_width * count + page_width ≤ size
room-one count size test page e l = let m : page_width * (count + 1) ≤ size = rw e at l in omega arith

pub puts_one : (list : List ℕ) (k element given wanted : ℕ) (test : Bool) (after : List ℕ) → test ≡ true → given ≡ wanted
    → after ≡ sets list (page_width * k) (element ∷ given ∷ []) → Puts list k (only test (record { element = element; verdict = wanted })) after (k + 1)
unfolding page_numbers
puts_one list k element given wanted test after e v a = rw (e, a, v) (record { counted = refl; stored = refl })

-- one record at most is put of an element
pub only-few : (test : Bool) (page : Page) → length (only test page) ≤ 1
only-few true page = omega arith
only-few false page = omega arith
