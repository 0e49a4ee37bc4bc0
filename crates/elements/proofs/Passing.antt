-- An element that rules 12 to 14 do not refuse: its row is that of the definition, and says what the element says.
use mathlib.Core.Path.{◌≡◌, refl, sym, ap, ◌∙◌}
use mathlib.Core.Bool.{Bool, true, false, not, ◌&&◌, false≢true}
use mathlib.Core.List.{List, [], ◌∷◌}
use Prim.Native.Nat.{ℕ, ◌≤◌}
use lib.Dec.{leb}
use lib.ListN.{length}
use borrow.Author.Tests.{leb-true}
use Rattle.std.specs.Prelude.{Some}
use Rattle.octets.specs.Walk.{Items}
use Rattle.tree.specs.Tree.{plain}
use Rattle.runs.specs.declared.Run.{Run}
use Rattle.runs.specs.Runs.{items_of, tree_in, all_primitive}
use Rattle.contents.specs.declared.Gathered.{Gathered}
use Rattle.contents.specs.declared.Span.{Span}
use Rattle.contents.specs.Search.{items_in, first_value}
use Rattle.portions.specs.declared.PortionList.{PortionList}
use Rattle.portions.specs.Portions.{all, all_portions, values, most_portions}
use Rattle.portions.proofs.Meetings.{portions-primitive}
use Rattle.elements.specs.declared.Frame.{Frame}
use Rattle.elements.specs.declared.Slots.{Slots}
use Rattle.elements.specs.Judge.{spelt, type_of}
use Rattle.elements.specs.Slots.{slot_content, slot_element, slot_row}
use Rattle.rows.specs.Columns.{portions_run}
use Rattle.elements.specs.Says.{Says}
use Rattle.elements.specs.Sees.{list_spelt, spelt_by, row_by, Passes}
use Rattle.elements.proofs.Findings.{Findings, element_in, identifier-bounds, logical-bounds, portions-are, names-by}
use Rattle.elements.proofs.Holding.{held-contains}
use Rattle.elements.proofs.Relisting.{relisted-fine, relisted-items}
use Rattle.elements.proofs.Values.{named}

all_three : (a b c : Bool) → all (a ∷ b ∷ c ∷ []) ≡ true → (a ≡ true) × (b ≡ true) × (c ≡ true)
all_three true true true e = (refl, refl, refl)
all_three true true false e = absurd (false≢true e)
all_three true false c e = absurd (false≢true e)
all_three false b c e = absurd (false≢true e)

first-true : (a b : Bool) → a && b ≡ true → a ≡ true
first-true true b e = refl
first-true false b e = absurd (false≢true e)

module _ {s : List ℕ} {shape : Slots} {r : Run} {frame : Frame} {g : Gathered} {listed : PortionList} {numbers : List ℕ}
    (f : Findings s shape r frame g (Some listed) numbers) (whole : Span)
    (object : ℕ) (type_is : object ≡ type_of (first_value shape.object (tree_in s r))) where
  row-by : row_by shape frame object g whole ≡ slot_row shape s whole.first whole.past (items_of s r)
  unfolding slot_row slot_element
  row-by =
      rw (
        type_is,
        f.gathers.identifier.bounds,
        f.gathers.logical.bounds,
        f.gathers.portions.bounds,
        f.framed.content.pair,
        f.framed.items,
      )

  -- the portions have the items of the list that was read
  primitive : all_primitive (items_in shape.portions (items_of s frame.body)) ≡ true
  primitive =
      portions-primitive s (items_in shape.portions (items_of s frame.body))
      (ap (λ (i : Items). all_portions (plain s i)) (sym f.gathers.list_items) ∙ f.lists.only)

  same-items : items_of s (portions_run g.portions) ≡ items_of s g.list
  same-items =
      relisted-items f.framed.fine f.gathers.portions f.made.portions primitive ∙ sym f.gathers.list_items

  module _ (q : spelt_by (element_in shape s r).identifier (element_in shape s r).logical listed ≡ true) where
    well : (spelt (element_in shape s r).identifier ≡ true) × (spelt (element_in shape s r).logical ≡ true) × (list_spelt listed ≡ true)
    well = all_three (spelt (element_in shape s r).identifier) (spelt (element_in shape s r).logical) (list_spelt listed) q

    says : Says s (row_by shape frame object g whole) (element_in shape s r)
    unfolding slot_element
    says =
        record {
          kind = refl;
          object = type_is;
          identifier = named s g.identifier (element_in shape s r).identifier (identifier-bounds f) well.0;
          logical = named s g.logical (element_in shape s r).logical (logical-bounds f) well.1;
          portions_fine = relisted-fine f.framed.fine f.gathers.portions f.made.portions primitive;
          only_portions = ap (λ (i : Items). all_portions (plain s i)) same-items ∙ f.lists.only;
          portions = ap (λ (i : Items). values (plain s i)) same-items ∙ sym (portions-are f);
          content = held-contains s frame.content f.framed.content.placed (slot_content shape (tree_in s r)) f.framed.content.held;
          spelt = sym (names-by f) ∙ q;
        }

    few : listed.count ≤ most_portions
    few = leb-true listed.count most_portions (first-true (leb listed.count most_portions) (not listed.misspelt) well.2)

    pub passes-by : Passes s (slot_row shape s whole.first whole.past (items_of s r)) (slot_element shape (tree_in s r)) numbers
        (record { row = row_by shape frame object g whole; count = listed.count })
    passes-by =
        record {
          row = row-by;
          says = says;
          count = f.lists.count ∙ ap length (sym (portions-are f));
          few = few;
          inside = f.lists.inside few;
          stored = f.lists.stored few ∙ sym (portions-are f);
        }
