-- The top of an element, by its shape: items that are free, items that are not looked at, and items in order, of which there are then no
-- more than two.
use mathlib.Core.Path.{◌≡◌, sym, ap, ◌∙◌}
use mathlib.Core.Bool.{Bool, true, false, ◌||◌, false≢true}
use mathlib.Core.List.{List}
use mathlib.Core.Logic.{◌⊎◌, inl, inr}
use Prim.Native.Nat.{ℕ, ◌≤◌}
use borrow.Author.Tests.{ne_eqb}
use Rattle.std.specs.Prelude.{Some}
use Rattle.headers.specs.Head.{constructed}
use Rattle.tree.specs.Tree.{plain}
use Rattle.runs.specs.declared.Run.{Run}
use Rattle.runs.specs.Runs.{tree_in, definite_run, Fine}
use Rattle.contents.specs.declared.Opening.{Opening}
use Rattle.contents.specs.declared.Span.{Span}
use Rattle.contents.specs.Search.{in_order, no_span}
use Rattle.contents.specs.Opening.{Opens}
use Rattle.contents.proofs.Orders.{in-order-few}
use Rattle.elements.specs.declared.Holder.{Holder}
use Rattle.elements.specs.declared.Slots.{Slots}
use Rattle.elements.specs.Slots.{slot_body, slot_ordered, slot_items}
use Rattle.elements.specs.Frames.{Bounding, Inner, NamedIn, HoldingSlots, no_holder, Frames}
use Rattle.elements.specs.WellMade.{WellMade}
use Rattle.elements.proofs.Bounding.{empty-fine, empty-items, lacked-bounding}
use Rattle.elements.proofs.Zero.{zero-lacked}
use Rattle.elements.proofs.Holding.{lacked-holding}

-- a constructed octet is not 0
not-zero : (octet : ℕ) → constructed octet ≡ true → octet ≡ 0 → ⊥
not-zero octet c z = false≢true (sym (ap constructed z) ∙ c)

either : (a b : Bool) → a || b ≡ true → (a ≡ true) ⊎ (b ≡ true)
either true b e = inl e
either false b e = inr e

-- nothing names an element whose items are not looked at
pub unnamed : (s : List ℕ) (shape : Slots) (r : Run) → shape.looked ≡ false → NamedIn s shape r (definite_run 0 0 0)
unfolding slot_body slot_items
unnamed s shape r l = record { fine = empty-fine s 0; items = rw l (empty-items s 0); tree = rw l (ap (plain s) (empty-items s 0)) }

-- or it is named by all of them
pub named-itself : (s : List ℕ) (shape : Slots) (r : Run) → WellMade shape → shape.free ≡ true → shape.looked ≡ true → Fine s r → NamedIn s shape r r
unfolding slot_body slot_items
named-itself s shape r made f l fine = record { fine = fine; items = rw (l, made.itself f); tree = rw (l, made.itself f) }

-- or it is named in one of them
pub named-within : (s : List ℕ) (shape : Slots) (r : Run) → WellMade shape → shape.free ≡ false → shape.looked ≡ true → {body : Run}
    → Inner s r shape.within body → NamedIn s shape r body
unfolding slot_body slot_items
named-within s shape r made f l inner =
    let there = ne_eqb shape.within 0 (not-zero shape.within (made.within f l)) in
    record { fine = inner.fine; items = rw (l, there) inner.items; tree = rw (l, there) inner.tree }

module _ (s : List ℕ) (shape : Slots) (r : Run) (fine : Fine s r) (made : WellMade shape) where
  module _ (f : shape.free ≡ true) where
    free-ordered : slot_ordered shape (tree_in s r) ≡ true
    unfolding slot_ordered
    free-ordered = rw f

    no_object : Bounding s r shape.object no_span
    no_object = lacked-bounding (zero-lacked shape.object (made.no_object f) fine)

    no_content : HoldingSlots s shape r no_holder
    no_content =
        lacked-holding made (zero-lacked shape.pieces (made.no_pieces f) fine) (zero-lacked shape.tiles.octet (made.no_tiles f) fine)
        (lacked-bounding (zero-lacked shape.content (made.no_content f) fine))

    pub free-frame : {body : Run} → NamedIn s shape r body → Frames s shape r (Some (record { body = body; object = no_span; content = no_holder }))
    free-frame named =
        record {
          ordered_is = free-ordered;
          fine = named.fine;
          items = named.items;
          tree = named.tree;
          object = no_object;
          content = no_content;
        }

  module _ (f : shape.free ≡ false) (o : Opening) (opens : Opens s r o) where
    few-instead : (in_order shape.one shape.instead (tree_in s r) ≡ true) ⊎ (in_order shape.one shape.tiles (tree_in s r) ≡ true) → o.count ≤ 2
    few-instead (inl e) = in-order-few s r o shape.one shape.instead opens e
    few-instead (inr e) = in-order-few s r o shape.one shape.tiles opens e

    abbrev or_instead : Bool
    or_instead = in_order shape.one shape.instead (tree_in s r) || in_order shape.one shape.tiles (tree_in s r)

    few-by : (in_order shape.one shape.two (tree_in s r) ≡ true) ⊎ (or_instead ≡ true) → o.count ≤ 2
    few-by (inl e) = in-order-few s r o shape.one shape.two opens e
    few-by (inr e) = few-instead (either (in_order shape.one shape.instead (tree_in s r)) (in_order shape.one shape.tiles (tree_in s r)) e)

    -- items in order are no more than two
    few-items : slot_ordered shape (tree_in s r) ≡ true → o.count ≤ 2
    unfolding slot_ordered
    few-items t = few-by (either (in_order shape.one shape.two (tree_in s r)) or_instead (rw f at t))

    module _ (stands : slot_ordered shape (tree_in s r) ≡ true)
        (body : Run) (named : o.count ≤ 2 → NamedIn s shape r body)
        (object : Span) (object-is : o.count ≤ 2 → Bounding s r shape.object object)
        (content : Holder) (content_is : o.count ≤ 2 → HoldingSlots s shape r content) where
      pub ordered-frame : Frames s shape r (Some (record { body = body; object = object; content = content }))
      ordered-frame =
          let few = few-items stands in
          let in_Body = named few in
          record {
            ordered_is = stands;
            fine = in_Body.fine;
            items = in_Body.items;
            tree = in_Body.tree;
            object = object-is few;
            content = content_is few;
          }
