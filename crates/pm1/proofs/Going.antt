-- The pass over the elements: what is put, and then the pages that are left, is all.
use mathlib.Core.Path.{◌≡◌, refl, ap, sym, ◌∙◌}
use mathlib.Core.List.{List, [], ◌++◌}
use Prim.Native.Nat.{ℕ, suc, ◌+◌, ◌*◌, ◌≤◌, ◌<◌}
use native.Mathlib.Omega.{arith}
use native.Mathlib.Numerals.{add-one}
use lib.ListN.{length, length-append}
use lib.Seq.{sets}
use Rattle.laws.proofs.Writes.{sets-append}
use Rattle.octets.specs.Walk.{no_items}
use Rattle.runs.specs.declared.Run.{Run}
use Rattle.runs.specs.Runs.{items_of, tree_in, whole_stream, tops, Fine, Meeting}
use Rattle.answers.specs.Table.{table_width}
use Rattle.pm1.specs.Pages.{Page, page_width, page_numbers}
use Rattle.pm1.specs.ByTable.{page_at, pages_at, pages_by, Puts, Ready}
use Rattle.pm1.proofs.Putting.{length-numbers, numbers-append}

pub record Going (s table list₀ list : List ℕ) (left : Run) (element count : ℕ) : Type 0 where
  pub fine : Fine s left
  pub passed : element + tops (items_of s left) ≡ tops (items_of s (whole_stream s))
  pub kept : length list ≡ length list₀
  pub counted : count + length (pages_at s table element (items_of s left)) ≡ length (pages_by s table)
  pub goes_on : sets list (page_width * count) (page_numbers (pages_at s table element (items_of s left))) ≡ sets list₀ 0 (page_numbers (pages_by s table))

pub going-all : (s table list : List ℕ) → Ready s table list → Going s table list list (whole_stream s) 0 0
going-all s table list ready = record { fine = ready.fine; passed = omega arith; kept = refl; counted = omega arith; goes_on = refl }

module _ {s table list₀ list : List ℕ} {left : Run} {element count : ℕ} (ready : Ready s table list₀) (g : Going s table list₀ list left element count) where
  module _ {code first past : ℕ} {inner rest : Run} (m : Meeting s left code first past inner rest) where
    abbrev own : List Page
    own = page_at table element (tree_in s inner)

    abbrev left_over : List Page
    left_over = pages_at s table (element + 1) (items_of s rest)

    one_less : tops (items_of s left) ≡ suc (tops (items_of s rest))
    one_less = ap tops m.tree

    split : pages_at s table element (items_of s left) ≡ own ++ left_over
    unfolding pages_at
    split = ap (pages_at s table element) m.tree ∙ ap (λ (k : ℕ). own ++ pages_at s table k (items_of s rest)) (sym (add-one element))

    in_all : count + (length own + length left_over) ≡ length (pages_by s table)
    in_all = ap (λ (n : ℕ). count + n) (sym (ap length split ∙ length-append own left_over)) ∙ g.counted

    -- there is a row for the element that is met, and room for its record,
    pub element-low : element < 4096
    element-low = omega (arith, one_less, g.passed, ready.few)

    pub element-row : element * table_width + table_width ≤ length table
    element-row = omega (arith, one_less, g.passed, ready.rows)

    pub record-room : page_width * (count + length own) ≤ length list
    record-room = omega (arith, in_all, g.kept, ready.room)

    -- which is put, and it goes on
    pub going_more : {list₁ : List ℕ} {total : ℕ} → length list₁ ≡ length list → Puts list count own list₁ total
        → Going s table list₀ list₁ rest (element + 1) total
    going_more {list₁} {total} same p =
        let at : page_width * total ≡ page_width * count + length (page_numbers own) = omega (arith, p.counted, length-numbers own) in
        record {
          fine = m.rest_fine;
          passed = omega (arith, one_less, g.passed);
          kept = same ∙ g.kept;
          counted = omega (arith, p.counted, in_all);
          goes_on = rw (at, p.stored) (sym (sets-append list (page_width * count) (page_numbers own) (page_numbers left_over))
              ∙ ap (sets list (page_width * count)) (sym (ap page_numbers split ∙ numbers-append own left_over)) ∙ g.goes_on);
        }

  -- at the end all is put
  pub going-none : items_of s left ≡ no_items → list ≡ sets list₀ 0 (page_numbers (pages_by s table))
  unfolding pages_at page_numbers
  going-none e =
      let no_more : pages_at s table element (items_of s left) ≡ [] = ap (pages_at s table element) e in
      ap (λ (pages : List Page). sets list (page_width * count) (page_numbers pages)) (sym no_more) ∙ g.goes_on
