-- The bounds of a content that are answered to a caller lie in the stream, and the part stands between them.
use mathlib.Core.Path.{◌≡◌, refl, ap, sym, ◌∙◌, subst}
use mathlib.Core.Bool.{false}
use mathlib.Core.List.{List, []}
use mathlib.Core.Option.{Option, none, some}
use Prim.Native.Nat.{ℕ, zero, suc, ◌≤◌}
use native.Mathlib.Omega.{arith}
use lib.Dec.{eqb}
use lib.ListN.{length, get_elem?}
use lib.Seq.{slice_empty}
use borrow.Author.Tests.{eqb-true, eq-eqb}
use borrow.Table.Steps.{cases}
use Rattle.headers.specs.Head.{type_field}
use Rattle.octets.specs.Walk.{Items, no_items as no_item, item, start_of, deepest, run}
use Rattle.octets.proofs.RulesHold.{derives}
use Rattle.tree.specs.Tree.{plain}
use Rattle.runs.specs.Runs.{whole_stream, Fine}
use Rattle.runs.proofs.Ends.{ends-right, ends-at-limit}
use Rattle.contents.specs.declared.Span.{Span}
use Rattle.contents.specs.Search.{Value}
use Rattle.elements.specs.declared.Row.{Row}
use Rattle.elements.specs.declared.Edition.{Edition}
use Rattle.elements.specs.Shape.{shape_of}
use Rattle.elements.specs.Judge.{Content, single, in_pieces, Element}
use Rattle.elements.specs.ElementRows.{content_octet, row_of, rows_of}
use Rattle.letters.specs.Letter.{letter, items_of_stream, rows_in, Within, not_there, present, letter_in}
use Rattle.letters.proofs.Nested.{Nested, stays, bounds-at-within}
use Rattle.reading.specs.Match.{unit_kind}
use Rattle.answers.specs.Answers.{fetched_of, part_of, fetched, located, Stands}
use Rattle.promises.specs.Demands.{TellsContent, UnitAt}
use Rattle.promises.proofs.Joining.{told-bytes, content}

contents-inside : (edition : Edition) (s : List ℕ) (to : ℕ) (items : Items) → Nested 0 to items → (j : ℕ) (row : Row)
    → get_elem? (rows_of edition s items) j ≡ some row
    → Within 0 to row.content
unfolding rows_of row_of
contents-inside edition s to no_item w j row e = let z : ◌≡◌ {A = ℕ} 0 1 = cc in absurd (omega arith)
contents-inside edition s to (item at code first past inside after) w zero row e =
    let shape = shape_of edition (type_field code) in
    let own : row_of shape s at (start_of (length s) after) inside ≡ row = cc in
    subst (λ (r : Row). Within 0 to r.content) own (bounds-at-within 0 to (content_octet shape.contents (plain s inside)) inside w.3)
contents-inside edition s to (item at code first past inside after) w (suc j) row e = contents-inside edition s to after w.4 j row e

-- all values of a stream that is whole lie in it
pub stream-nested : (s : List ℕ) → Fine s (whole_stream s) → Nested 0 (length s) (items_of_stream s)
stream-nested s fine =
    let r = whole_stream s in
    let e = ends-at-limit 0 (length s) (run deepest s 0 (length s) false).how (ends-right _ s 0 (length s) false (omega arith)) fine.whole in
    (stays (derives r.room s r.at r.limit r.marked fine.order) (length s) e).nested

-- so do the content fields of a row
content-inside : (edition : Edition) (s : List ℕ) → Fine s (whole_stream s) → (j : ℕ) (row : Row) → get_elem? (rows_in edition s) j ≡ some row
    → Within 0 (length s) row.content
content-inside edition s fine = contents-inside edition s (length s) (items_of_stream s) (stream-nested s fine)

in_stream : (n : ℕ) (pair : Span) → Within 0 n pair → (pair.first ≤ pair.past) × (pair.past ≤ n)
in_stream n pair (not_there e) = rw e (omega arith, omega arith)
in_stream n pair (present a b c) = (b, c)

-- a text unit whose content is the value of one item
record OneItem (elements : List Element) (j : ℕ) : Type 0 where
  unit : Element
  is_unit : UnitAt elements j unit
  value : Value
  content_is : unit.content ≡ single value

module _ (elements : List Element) (j : ℕ) where
  one_of : (own : Element) → UnitAt elements j own → (c : Content) → own.content ≡ c → (part_of c).number ≡ 0 → OneItem elements j
  one_of own at (single value) e p = record { unit = own; is_unit = at; value = value; content_is = e }
  one_of own at (in_pieces run) e p = absurd (omega arith)

  -- only such a unit has a part
  one-item : (found_at : Option Element) → get_elem? elements j ≡ found_at → (fetched_of part_of found_at).number ≡ 0 → OneItem elements j
  one-item none e p = absurd (omega arith)
  one-item (some own) e p =
      cases (eqb own.kind unit_kind)
      (λ t. one_of own (record { there = e; kind = eqb-true own.kind unit_kind t }) own.content refl (rw t at p))
      (λ t. let q : ◌≡◌ {A = ℕ} 20 0 = rw t at p in absurd (omega arith))

module _ (edition : Edition) (s : List ℕ) (asked : ℕ) where
  abbrev Standing : Type 0
  Standing = Stands edition s asked (located edition s asked).first (located edition s asked).past

  -- with a refusal the bounds are 0 and 0, and the part is empty
  pub located-nowhere : eqb (fetched edition s asked).number 0 ≡ false → (fetched edition s asked).part ≡ [] → Standing
  unfolding located
  located-nowhere t none-there = rw t (record { part = slice_empty 0 s ∙ sym none-there; order = omega arith; inside = omega arith })

  -- of a letter, the part is between the content fields of its row
  module _ {headers : ℕ} {elements : List Element} (e : letter_in edition s ≡ letter headers elements) (fine : Fine s (whole_stream s))
      (row_at : (unit : Element) → UnitAt elements asked unit → (row : Row) × (get_elem? (rows_in edition s) asked ≡ some row)
      × TellsContent s row.content unit.content) where
    pub located-part : (fetched edition s asked).number ≡ 0 → Standing
    unfolding located fetched
    located-part p =
        let one = one-item elements asked (get_elem? elements asked) refl (rw e at p) in
        let (row, there, tells) = row_at one.unit one.is_unit in
        let told = told-bytes s row.content one.value (subst (TellsContent s row.content) one.content_is tells) in
        let handed-is = content edition s headers elements e asked one.unit one.is_unit one.value one.content_is in
        let (order, inside) = in_stream (length s) row.content (content-inside edition s fine asked row there) in
        rw (eq-eqb (fetched edition s asked).number 0 p, there) (record { part = told ∙ sym (ap (λ f. f.part) handed-is); order = order; inside = inside })
