-- What is promised of the PM1 desk holds: the pages are listed for each element of the tree, and the tree alone decides.
use mathlib.Core.Path.{◌≡◌, ap, sym, ◌∙◌, subst}
use mathlib.Core.Bool.{Bool, true}
use mathlib.Core.List.{List, [], ◌∷◌, map, Memᴰ}
use mathlib.Core.Option.{some}
use Prim.Native.Nat.{ℕ, zero, suc, ◌+◌, ◌≤◌, ◌<◌}
use native.Mathlib.Omega.{arith}
use lib.ListN.{length, get_elem?, length-map}
use Rattle.tree.specs.Tree.{tree_of}
use Rattle.elements.specs.declared.Edition.{Edition}
use Rattle.elements.specs.Judge.{Element}
use Rattle.reading.specs.Match.{only}
use Rattle.reading.specs.Lists.{Sorted}
use Rattle.reading.proofs.Lists.{sorted-once}
use Rattle.reading.proofs.Each.{only-in, only_out, only-sorted, each-out, each_in, each-sorted, each-few}
use Rattle.letters.proofs.Letters.{letter-found}
use Rattle.promises.specs.Refusals.{TopItem, top_items, says_in}
use Rattle.promises.specs.Demands.{IsAccepted}
use Rattle.promises.proofs.Refusals.{accepted-elements}
use Rattle.promises.proofs.Demand2.{normal_tree}
use Rattle.dimensions.specs.Dimensions.{verdict_of}
use Rattle.pm1.specs.Pages.{Page, is_page, page_of, pages_of, pages_in}
use Rattle.pm1.proofs.Putting.{only-few}
use Rattle.promises_pm1.specs.Promises.{OfPage, Desk}
use Rattle.promises_pm1.proofs.Refusals.{told, refused_alike, counts, untouched, table_untouched, table_finished}

abbrev Before : Page → Page → Type 0
Before p q = p.element < q.element

module _ (edition : Edition) where
  abbrev test : TopItem → Bool
  test item = is_page (says_in edition item).kind (says_in edition item).object

  abbrev record_of : ℕ → TopItem → Page
  record_of j item = record { element = j; verdict = verdict_of item.run }

  -- a record that is listed
  out : (s : List ℕ) (p : Page) → Memᴰ p (pages_in edition s) → OfPage edition s p
  out s p m =
      let f = each-out (page_of edition) 0 (top_items (tree_of s)) p m in
      let o = only_out (test f.here) (record_of (0 + f.place) f.here) p f.from in
      let z : 0 + f.place ≡ f.place = omega arith in
      let e : p.element ≡ f.place = ap (λ (q : Page). q.element) o.1 ∙ z in
      record {
        item = f.here;
        there = ap (get_elem? (top_items (tree_of s))) e ∙ f.at;
        page = o.0;
        verdict_is = ap (λ (q : Page). q.verdict) o.1;
      }

  same-record : (p : Page) (item : TopItem) → p.verdict ≡ verdict_of item.run → p ≡ record_of (0 + p.element) item
  same-record p item v =
      let z : 0 + p.element ≡ p.element = omega arith in
      ap (λ (n : ℕ). record { element = p.element; verdict = n }) v ∙ ap (λ (k : ℕ). record_of k item) (sym z)

  -- and a page that is there
  into : (s : List ℕ) (p : Page) → OfPage edition s p → Memᴰ p (pages_in edition s)
  into s p o =
      let e = same-record p o.item o.verdict_is in
      each_in (page_of edition) 0 (top_items (tree_of s)) p p.element o.item o.there
      (subst (λ (q : Page). Memᴰ q (only (test o.item) (record_of (0 + p.element) o.item))) (sym e)
      (only-in (test o.item) (record_of (0 + p.element) o.item) o.page))

  sorted : (s : List ℕ) → Sorted Before (pages_in edition s)
  sorted s =
      each-sorted (page_of edition) Before (λ n item. only-sorted Before (test item) (record_of n item)) across 0 (top_items (tree_of s))
    where
      across : (n k : ℕ) (x z : TopItem) (y w : Page) → n < k → Memᴰ y (page_of edition n x) → Memᴰ w (page_of edition k z) → Before y w
      across n k x z y w l a b =
          let p = ap (λ (q : Page). q.element) (only_out (test x) (record_of n x) y a).1 in
          let q = ap (λ (r : Page). r.element) (only_out (test z) (record_of k z) w b).1 in
          omega arith

  said_at : (tops : List TopItem) (j : ℕ) (top : TopItem) → get_elem? tops j ≡ some top → get_elem? (map (says_in edition) tops) j ≡ some (says_in edition top)
  said_at [] j top e = let z : ◌≡◌ {A = ℕ} 0 1 = cc in absurd (omega arith)
  said_at (x ∷ tops) zero top e = let p : x ≡ top = cc in ap (λ (y : TopItem). some (says_in edition y)) p
  said_at (x ∷ tops) (suc j) top e = said_at tops j top e

  all_said : (s : List ℕ) (a : IsAccepted edition s) → a.elements ≡ map (says_in edition) (top_items (tree_of s))
  all_said s a = accepted-elements edition (tree_of s) a.elements (letter-found edition s a.headers a.elements a.judged).judged

  said : (s : List ℕ) (a : IsAccepted edition s) (p : Page) → OfPage edition s p
      → (e : Element) × (get_elem? a.elements p.element ≡ some e) × (is_page e.kind e.object ≡ true)
  said s a p o = (
    says_in edition o.item,
    ap (λ (es : List Element). get_elem? es p.element) (all_said s a) ∙ said_at (top_items (tree_of s)) p.element o.item o.there,
    o.page,
  )

  few : (s : List ℕ) (a : IsAccepted edition s) → length (pages_in edition s) ≤ length a.elements
  few s a =
      let most = each-few (page_of edition) (λ n item. only-few (test item) (record_of n item)) 0 (top_items (tree_of s)) in
      let size : length a.elements ≡ length (top_items (tree_of s)) = ap length (all_said s a) ∙ length-map (top_items (tree_of s)) (says_in edition) in
      omega arith

  pub pm1-desk : Desk edition
  pm1-desk =
      record {
        told = told edition;
        refused_alike = refused_alike edition;
        counts = counts edition;
        untouched = untouched edition;
        table_untouched = table_untouched edition;
        table_finished = table_finished edition;
        exactly = λ s p. (out s p, into s p);
        in_order = sorted;
        once = λ s. sorted-once Before (λ p l. omega arith) (pages_in edition s) (sorted s);
        said = said;
        few = few;
        same_tree = λ s r e. ap (pages_of edition) e;
        normal = λ s a. ap (pages_of edition) (normal_tree edition s a.headers a.elements a.judged);
        determined = λ x y. (x.answered ∙ sym y.answered, x.tabled ∙ sym y.tabled, x.filled ∙ sym y.filled);
      }
