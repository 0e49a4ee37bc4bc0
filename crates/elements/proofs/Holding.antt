-- What holds the content of an element: an item with pieces, if there is one, or else one with tiles, or else the item with the content. And
-- what stands among the pieces of a content, or of a seal.
use mathlib.Core.Path.{◌≡◌, refl, sym, ap, ◌∙◌}
use mathlib.Core.Bool.{Bool, true, false, true≢false}
use mathlib.Core.List.{List}
use mathlib.Core.Logic.{◌⊎◌, inl, inr}
use Prim.Native.Nat.{ℕ}
use borrow.Author.Tests.{eq-eqb, ne_eqb}
use Rattle.headers.specs.Head.{constructed}
use Rattle.runs.specs.declared.Run.{Run}
use Rattle.runs.specs.Runs.{tree_in, definite_run}
use Rattle.contents.specs.declared.Part.{Part}
use Rattle.contents.specs.declared.Span.{Span}
use Rattle.contents.specs.Search.{amount, first_run}
use Rattle.contents.specs.First.{span_of, IsFirst, Lacks}
use Rattle.pieces.specs.Pieces.{only_pieces, octet_pieces, bit_pieces}
use Rattle.elements.specs.declared.Holder.{Holder}
use Rattle.elements.specs.declared.Slots.{Slots}
use Rattle.elements.specs.Judge.{Content, single, in_pieces, pieces_alone}
use Rattle.elements.specs.Slots.{slot_content, slot_octet}
use Rattle.elements.specs.Says.{Placed, Contains}
use Rattle.elements.specs.Frames.{Bounding, HoldsContent, HoldingSlots, PiecesFirst, with_pieces, with_tiles}
use Rattle.elements.specs.WellMade.{WellMade}
use Rattle.elements.proofs.Bounding.{held-placed, held-there, empty-fine}

module _ {s : List ℕ} {shape : Slots} {r : Run} (made : WellMade shape) where
  constructed-by : {octet : ℕ} {p : Part} → IsFirst s r octet p → (octet ≡ 0) ⊎ (constructed octet ≡ true) → constructed octet ≡ true
  constructed-by h (inl z) = absurd (h.octet_not_zero z)
  constructed-by h (inr c) = c

  -- an item with pieces is there, or one with tiles alone
  pub pieced-holding : {p : Part} → PiecesFirst s shape r p → HoldingSlots s shape r (record { value = span_of p; pieced = true; pieces = p.inner })
  unfolding slot_octet slot_content
  pieced-holding {p} (with_tiles l h) =
      let none = eq-eqb (amount shape.pieces (tree_in s r)) 0 l.amount_is in
      let some = ne_eqb (amount shape.tiles.octet (tree_in s r)) 0 h.there in
      record {
        pair = rw (none, some) (sym h.bounds);
        placed = held-placed h;
        fine = h.inner_fine;
        held = rw (none, some) (record { pieced = refl; there = held-there h; tree = sym (h.tree (constructed-by h made.tiles)) });
        items = λ _. rw (none, some) (sym h.items);
      }
  pieced-holding {p} (with_pieces h) =
      let some = ne_eqb (amount shape.pieces (tree_in s r)) 0 h.there in
      record {
        pair = rw some (sym h.bounds);
        placed = held-placed h;
        fine = h.inner_fine;
        held = rw some (record { pieced = refl; there = held-there h; tree = sym (h.tree (constructed-by h made.pieces)) });
        items = λ _. rw some (sym h.items);
      }

  -- none is there
  pub lacked-holding : {v : Span} → Lacks s r shape.pieces → Lacks s r shape.tiles.octet → Bounding s r shape.content v
      → HoldingSlots s shape r (record { value = v; pieced = false; pieces = definite_run 0 0 0 })
  unfolding slot_octet slot_content
  lacked-holding {v} l m b =
      let none = eq-eqb (amount shape.pieces (tree_in s r)) 0 l.amount_is in
      let no_tiles = eq-eqb (amount shape.tiles.octet (tree_in s r)) 0 m.amount_is in
      record {
        pair = rw (none, no_tiles) b.pair;
        placed = b.placed;
        fine = empty-fine s 0;
        held = rw (none, no_tiles) (record { pieced = refl; bounds = b.value made.content });
        items = λ e. absurd (true≢false (sym e));
      }

  -- a seal in pieces is there
  pub sealed-alone : {p : Part} → IsFirst s r shape.seal p → {b : Bool} → b ≡ bit_pieces (tree_in s p.inner)
      → b ≡ bit_pieces (first_run shape.seal (tree_in s r))
  sealed-alone h e = e ∙ ap bit_pieces (sym (h.tree (constructed-by h made.seal)))

-- none is there
pub unsealed-alone : {s : List ℕ} {r : Run} {octet : ℕ} → Lacks s r octet → true ≡ bit_pieces (first_run octet (tree_in s r))
unfolding only_pieces
unsealed-alone l = rw l.tree

module _ (s : List ℕ) (holder : Holder) where
  -- the pair of a holder bounds the content
  pub held-contains : Placed s holder.value → (content : Content) → HoldsContent s holder content → Contains s holder.value content
  held-contains placed (single value) held = held.bounds
  held-contains placed (in_pieces run) held = (placed, held.there)

  -- what is not in pieces has nothing else among them
  pub whole-alone : holder.pieced ≡ false → (content : Content) → HoldsContent s holder content → true ≡ pieces_alone content
  whole-alone e (single value) held = refl
  whole-alone e (in_pieces run) held = absurd (true≢false (sym held.pieced ∙ e))

  pub pieced-alone : holder.pieced ≡ true → (b : Bool) → b ≡ octet_pieces (tree_in s holder.pieces)
      → (content : Content) → HoldsContent s holder content → b ≡ pieces_alone content
  pieced-alone e b only (single value) held = absurd (true≢false (sym e ∙ held.pieced))
  pieced-alone e b only (in_pieces run) held = only ∙ ap octet_pieces held.tree
