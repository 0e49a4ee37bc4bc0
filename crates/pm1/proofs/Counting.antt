-- How many pages there are by a table: counted row by row, they are as many as are listed.
use mathlib.Core.Path.{◌≡◌, refl, ap, ◌∙◌}
use mathlib.Core.Bool.{Bool, true, false, cond}
use mathlib.Core.List.{List}
use Prim.Native.Nat.{ℕ, suc, ◌+◌, ◌-◌, ◌<◌, ◌≤◌}
use native.Mathlib.Omega.{arith}
use native.Mathlib.Numerals.{add-one}
use lib.ListN.{length, length-append}
use Rattle.octets.specs.Walk.{Items, no_items, item}
use Rattle.tree.specs.Tree.{plain}
use Rattle.runs.specs.Runs.{tops}
use Rattle.reading.specs.Match.{only}
use Rattle.dimensions.specs.Dimensions.{verdict_of}
use Rattle.pm1.specs.Pages.{Page, is_page}
use Rattle.pm1.specs.ByTable.{kind_at, object_at, pages_among, page_at, pages_at}

-- the next row, and those after it
pub among-step : (table : List ℕ) (j n : ℕ) → j < n
    → pages_among table j (n - j) ≡ cond (is_page (kind_at table j) (object_at table j)) 1 0 + pages_among table (j + 1) (n - (j + 1))
unfolding pages_among
among-step table j n l = let e : n - j ≡ suc (n - (j + 1)) = omega arith in ap (pages_among table j) e ∙ rw (add-one j)

pub among_none : (table : List ℕ) (j n : ℕ) → n ≤ j → pages_among table j (n - j) ≡ 0
unfolding pages_among
among_none table j n l = let e : n - j ≡ 0 = omega arith in ap (pages_among table j) e

-- a row is counted if it is a page, and those after it are left
pub among_next : (table : List ℕ) (j n count all : ℕ) (test : Bool) → test ≡ is_page (kind_at table j) (object_at table j) → j < n
    → count + pages_among table j (n - j) ≡ all → count + cond test 1 0 + pages_among table (j + 1) (n - (j + 1)) ≡ all
among_next table j n count all test e l so_far =
    let step = among-step table j n l in
    let same : ◌≡◌ {A = ℕ} (cond test 1 0) (cond (is_page (kind_at table j) (object_at table j)) 1 0) = ap (λ (b : Bool). cond b 1 0) e in
    omega arith

only-length : (test : Bool) (page : Page) → length (only test page) ≡ cond test 1 0
only-length true page = refl
only-length false page = refl

-- counted and listed
pub among-listed : (s table : List ℕ) (j : ℕ) (items : Items) → length (pages_at s table j items) ≡ pages_among table j (tops items)
unfolding pages_at pages_among
among-listed s table j no_items = refl
among-listed s table j (item at code first past inside after) =
    let test = is_page (kind_at table j) (object_at table j) in
    let own = only-length test (record { element = j; verdict = verdict_of (plain s inside) }) in
    let more = among-listed s table (suc j) after in
    let both = length-append (page_at table j (plain s inside)) (pages_at s table (suc j) after) in
    omega arith
