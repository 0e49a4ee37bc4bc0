-- The desk and the two editions: where both read every element alike, the same pages with the same verdicts; and by 1988 a stream with a
-- protected part fills no table, since the desk leaves the table as the check does.
use mathlib.Core.Path.{◌≡◌, refl, ap, ap₂, sym, ◌∙◌}
use mathlib.Core.Bool.{Bool, true, false, cond, not, ◌&&◌, false≢true}
use mathlib.Core.List.{List, [], ◌∷◌, ◌++◌, map}
use Prim.Native.Nat.{ℕ, suc, ◌≤◌}
use native.Mathlib.Omega.{arith}
use lib.Dec.{eqb, ltb}
use lib.ListN.{length}
use borrow.Author.Tests.{eqb-true, ne_eqb}
use borrow.Table.Steps.{cases}
use Rattle.headers.specs.Head.{is_in}
use Rattle.tree.specs.Tree.{tree_of}
use Rattle.headers.specs.Head.{code_of}
use Rattle.contents.specs.Search.{is}
use Rattle.portions.specs.Portions.{all}
use Rattle.elements.specs.declared.Edition.{Edition}
use Rattle.elements.specs.declared.Edition.TheVariants.{Of1988, Of1993}
use Rattle.elements.specs.Shape.{shape_of}
use Rattle.elements.specs.Judge.{body_of, element_of}
use Rattle.reading.specs.Match.{for_each, only}
use Rattle.answers.specs.declared.Checked.{Checked}
use Rattle.answers.specs.Answers.{checked, checked_table}
use Rattle.promises.specs.Refusals.{TopItem, top_items, says_in}
use Rattle.promises.specs.Editions.{is_protected, read_alike, agree}
use Rattle.promises.proofs.Accepted.{check-high}
use Rattle.promises.proofs.OneElement.{shapes-agree}
use Rattle.promises.proofs.Editions.{editions}
use Rattle.dimensions.specs.Dimensions.{verdict_of}
use Rattle.pm1.specs.Pages.{Page, is_page, page_of, pages_in}
use Rattle.pm1.specs.Answers.{list_too_short, pages_lent, paged_after, paged, paged_table, paged_list}
use Rattle.promises_pm1.specs.Promises.{DeskEditions}

-- the table is left as the check leaves it
table-by : (c : Checked) → c.number ≤ 16 → (pages room : ℕ) (finished table : List ℕ)
    → cond (is_in (paged_after c pages room).number (0 ∷ list_too_short ∷ [])) finished table ≡ cond (eqb c.number 0) finished table
table-by c high pages room finished table =
    cases (eqb c.number 0)
    (λ t. rw t (cases (ltb room pages) (λ u. rw u) (λ u. rw u)))
    (λ t. let no-30 : eqb c.number 30 ≡ false = ne_eqb c.number 30 (λ z. omega arith) in rw (t, t, no-30))

table_is : (edition : Edition) (s table : List ℕ) (room : ℕ) → paged_table edition s table room ≡ checked_table edition s table
unfolding paged paged_table checked_table
table_is edition s table room = table-by (checked edition s table) (check-high edition s table) (length (pages_in edition s)) room _ table

both : (a b : Bool) → a && b ≡ true → (a ≡ true) × (b ≡ true)
both true b e = (refl, e)
both false b e = absurd (false≢true e)

negated : (b : Bool) → not b ≡ true → b ≡ false
negated true e = absurd (false≢true e)
negated false e = refl

-- a page of one edition is a page of the other: a text unit is none by either
page-alike : (item : TopItem) → is_protected item.type ≡ false
    → is_page (says_in Of1993 item).kind (says_in Of1993 item).object ≡ is_page (says_in Of1988 item).kind (says_in Of1988 item).object
unfolding shape_of element_of body_of
page-alike item free =
    cases (is 0xA3 item.type)
    (λ t. let e : code_of item.type ≡ 0xA3 = eqb-true (code_of item.type) 0xA3 t in rw e)
    (λ t. let same = shapes-agree item.type t free in rw same)

pages-from : (n : ℕ) (items : List TopItem) → all (map read_alike items) ≡ true → for_each n items (page_of Of1993) ≡ for_each n items (page_of Of1988)
unfolding for_each
pages-from n [] e = refl
pages-from n (item ∷ items) e =
    let (here, rest) = both (read_alike item) (all (map read_alike items)) e in
    let free = negated (is_protected item.type) (both (not (is_protected item.type)) _ here).0 in
    ap₂ (λ (a b : List Page). a ++ b)
    (ap (λ (test : Bool). only test (record { element = n; verdict = verdict_of item.run })) (page-alike item free)) (pages-from (suc n) items rest)

module _ (s : List ℕ) (agreed : agree (tree_of s) ≡ true) where
  pages-alike : pages_in Of1993 s ≡ pages_in Of1988 s
  pages-alike = pages-from 0 (top_items (tree_of s)) agreed

  answers-alike : (table : List ℕ) (room : ℕ) → paged Of1993 s table room ≡ paged Of1988 s table room
  unfolding paged
  answers-alike table room = ap₂ (λ (c : Checked) (n : ℕ). paged_after c n room) ((editions.alike s agreed).check table) (ap length pages-alike)

  lists-alike : (table list : List ℕ) → paged_list Of1993 s table list ≡ paged_list Of1988 s table list
  unfolding paged_list
  lists-alike table list = rw (answers-alike table (pages_lent list), pages-alike)

pub pm1-editions : DeskEditions
pm1-editions =
    record {
      alike = λ s agreed table list.
          record {
            pages = answers-alike s agreed table (pages_lent list);
            pages_table = table_is Of1993 s table (pages_lent list) ∙ (editions.alike s agreed).check_table table
                ∙ sym (table_is Of1988 s table (pages_lent list));
            pages_list = lists-alike s agreed table list;
          };
      no_row = λ s j item there protected table room. table_is Of1988 s table room ∙ (editions.no_row s j item there protected table).check;
    }
