-- What was found of an element, against what it says: rules 12 and 14.
use mathlib.Core.Path.{◌≡◌, sym, ap, ◌∙◌, subst}
use mathlib.Core.Bool.{true, false, ◌&&◌, and-false, and_assoc}
use mathlib.Core.List.{List}
use Prim.Native.Nat.{ℕ, zero, suc, ◌+◌}
use native.Mathlib.Omega.{arith}
use lib.Dec.{eqb}
use borrow.Author.Tests.{ne_eqb}
use Rattle.std.specs.Prelude.{Option, Some, None}
use Rattle.tree.specs.Tree.{Tree}
use Rattle.runs.specs.declared.Run.{Run}
use Rattle.runs.specs.Runs.{tree_in}
use Rattle.contents.specs.declared.Gathered.{Gathered}
use Rattle.contents.specs.Search.{first_value, first_run}
use Rattle.contents.specs.Gather.{Gathers}
use Rattle.pieces.specs.Pieces.{bit_pieces}
use Rattle.portions.specs.declared.PortionList.{PortionList}
use Rattle.portions.specs.Lists.{ReadsPortions}
use Rattle.portions.specs.Portions.{values}
use Rattle.portions.proofs.Judging.{well-spelt}
use Rattle.elements.specs.declared.Frame.{Frame}
use Rattle.elements.specs.declared.Slots.{Slots}
use Rattle.elements.specs.Judge.{pieces_alone, Element, names_fit}
use Rattle.elements.specs.Slots.{slot_content, slot_element, slot_tabled}
use Rattle.elements.specs.Says.{Bounds}
use Rattle.elements.specs.Frames.{Framed}
use Rattle.elements.specs.Sees.{once, tabled_by, spelt_by, sought_of}
use Rattle.elements.specs.WellMade.{WellMade}
use Rattle.elements.proofs.Bounding.{counted-bounds}

-- what was found: the top of the element, what names it, and its portions
pub record Findings (s : List ℕ) (shape : Slots) (r : Run) (frame : Frame) (g : Gathered) (listed : Option PortionList) (numbers : List ℕ)
    : Type 0 where
  pub made : WellMade shape
  pub framed : Framed s shape r frame
  pub alone : pieces_alone (slot_content shape (tree_in s r)) ≡ true
  pub seal_alone : bit_pieces (first_run shape.seal (tree_in s r)) ≡ true
  pub gathers : Gathers s frame.body (sought_of shape) g
  pub lists : ReadsPortions s g.list listed numbers

-- what the element says
abbrev pub element_in : Slots → List ℕ → Run → Element
element_in shape s r = slot_element shape (tree_in s r)

no-sum : (a b : ℕ) → eqb (a + b) 0 ≡ (eqb a 0 && eqb b 0)
no-sum zero b = let e : 0 + b ≡ b = omega arith in rw e
no-sum (suc a) b = rw (ne_eqb (suc a + b) 0 (λ e. omega arith), ne_eqb (suc a) 0 (λ e. omega arith))

-- 12: other items than portions are not tabled
pub mixed-untabled : {s : List ℕ} {shape : Slots} {r : Run} {frame : Frame} {g : Gathered} {numbers : List ℕ}
    → Findings s shape r frame g None numbers → slot_tabled shape (tree_in s r) ≡ false
unfolding slot_tabled
mixed-untabled f =
    rw (← f.framed.tree, ← f.gathers.list_tree f.made.portions, f.lists) (simp and-false)

module _ {s : List ℕ} {shape : Slots} {r : Run} {frame : Frame} {g : Gathered} {listed : PortionList} {numbers : List ℕ}
    (f : Findings s shape r frame g (Some listed) numbers) where
  -- 12
  pub tabled-by : tabled_by shape.identifier.needed g ≡ slot_tabled shape (tree_in s r)
  unfolding tabled_by slot_tabled once
  tabled-by =
      rw (
        f.framed.ordered_is,
        f.alone,
        f.seal_alone,
        ← f.framed.tree,
        f.gathers.identifier.amount_is,
        f.gathers.logical.amount_is,
        f.gathers.portions.amount_is,
        f.gathers.barred,
        ← f.gathers.list_tree f.made.portions,
        f.lists.only,
        no-sum,
      ) (simp and_assoc)

  pub identifier-bounds : Bounds s g.identifier (element_in shape s r).identifier
  unfolding slot_element
  identifier-bounds =
      subst (λ (t : Tree). Bounds s g.identifier (first_value shape.identifier.octet t)) f.framed.tree
      (counted-bounds f.gathers.identifier f.made.identifier)

  pub logical-bounds : Bounds s g.logical (element_in shape s r).logical
  unfolding slot_element
  logical-bounds =
      subst (λ (t : Tree). Bounds s g.logical (first_value shape.logical t)) f.framed.tree
      (counted-bounds f.gathers.logical f.made.logical)

  pub portions-are : (element_in shape s r).portions ≡ values (tree_in s g.list)
  unfolding slot_element
  portions-are = ap values (sym (f.gathers.list_tree f.made.portions ∙ ap (first_run shape.portions) f.framed.tree))

  -- 14
  pub names-by : spelt_by (element_in shape s r).identifier (element_in shape s r).logical listed ≡ names_fit (element_in shape s r)
  unfolding names_fit
  names-by = rw (portions-are, well-spelt f.lists)
