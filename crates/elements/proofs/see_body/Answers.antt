-- `elements::see_body` meets its contract: what was found of the element decides.
use mathlib.Core.Path.{◌≡◌, sym, ◌∙◌, subst}
use mathlib.Core.Bool.{true}
use Rattle.std.specs.Prelude.{Option, Some, None}
use Rattle.runs.specs.declared.Run.{Run}
use Rattle.octets.specs.Walk.{no_items}
use Rattle.runs.specs.Runs.{items_of, tree_in}
use Rattle.contents.specs.declared.Sought.{Sought}
use Rattle.contents.specs.Search.{first_run, first_value}
use Rattle.contents.specs.Gather.{Gathers}
use Rattle.portions.specs.declared.PortionList.{PortionList}
use Rattle.portions.specs.Lists.{ReadsPortions}
use Rattle.pieces.specs.Pieces.{bit_pieces}
use Rattle.elements.specs.Judge.{pieces_alone}
use Rattle.elements.specs.Slots.{slot_content}
use Rattle.elements.specs.Frames.{Framed}
use Rattle.elements.specs.Sees.{sought_of}
use Rattle.elements.proofs.Bounding.{uncounted}
use Rattle.elements.proofs.Findings.{Findings, element_in, identifier-bounds, logical-bounds}
use Rattle.elements.proofs.Seeing.{sees-mixed, sees-untabled, sees-untyped, sees-misspelt, sees-well}
use Rattle.elements.proofs.see_body.Goals as goal
use Rattle.elements.proofs.see_body.Goals.{After-listed_of}

found : (c : After-listed_of) (listed : Option PortionList) → let a = c.args in
    ((c.gather-g.result.lists ≡ 0 → items_of a.s.now c.gather-g.result.list ≡ no_items)
    → ReadsPortions a.s.now c.gather-g.result.list listed c.listed_of.new.bounds)
    → (r : Run) → Framed a.s.now a.shape r a.frame
    → pieces_alone (slot_content a.shape (tree_in a.s.now r)) ≡ true → bit_pieces (first_run a.shape.seal (tree_in a.s.now r)) ≡ true
    → Findings a.s.now a.shape r a.frame c.gather-g.result listed c.listed_of.new.bounds
found c listed reads r framed alone seal_alone =
    let a = c.args in
    let gathers : Gathers a.s.now a.frame.body (sought_of a.shape) c.gather-g.result =
    subst (λ (x : Sought). Gathers a.s.now a.frame.body x c.gather-g.result) c.sought_of.ensures c.gather-g.ensures in
    record {
      made = c.requires.0.made;
      framed = framed;
      alone = alone;
      seal_alone = seal_alone;
      gathers = gathers;
      lists = reads (λ z. gathers.list_items ∙ uncounted gathers.portions z);
    }

pub returns-in_default : goal.returns-in_default
returns-in_default c r framed alone seal_alone =
    sees-mixed c.args.whole (found (goal.at.returns-in_default c).After-listed_of None c.in_default.ensures r framed alone seal_alone)

pub returns-then-not-is_tabled : goal.returns-then-not-is_tabled
returns-then-not-is_tabled c r framed alone seal_alone =
    let f = found (goal.at.returns-then-not-is_tabled c).After-listed_of (Some c.in-Some.listed) c.in-Some.ensures r framed alone seal_alone in
    sees-untabled f c.args.whole (sym c.is_tabled.ensures ∙ c.if-not-is_tabled.true)

pub returns-in_default-object_type : goal.returns-in_default-object_type
returns-in_default-object_type c r framed alone seal_alone =
    let f = found (goal.at.returns-in_default-object_type c).After-listed_of (Some c.in-Some.listed) c.in-Some.ensures r framed alone seal_alone in
    sees-untyped f c.args.whole (sym c.is_tabled.ensures ∙ c.if-not-is_tabled.false)
    (c.in_default-object_type.ensures.1 (first_value c.args.shape.object (tree_in c.args.s.now r)) (framed.object.value c.requires.0.made.object))

pub returns-then-not-are_spelt : goal.returns-then-not-are_spelt
returns-then-not-are_spelt c r framed alone seal_alone =
    let a = c.args in
    let f = found (goal.at.returns-then-not-are_spelt c).After-listed_of (Some c.in-Some.listed) c.in-Some.ensures r framed alone seal_alone in
    let e = element_in a.shape a.s.now r in
    sees-misspelt f a.whole (sym c.is_tabled.ensures ∙ c.if-not-is_tabled.false) c.in-Some-object_type.object
    (c.in-Some-object_type.ensures.1 (first_value a.shape.object (tree_in a.s.now r)) (framed.object.value c.requires.0.made.object))
    (sym (c.are_spelt.ensures e.identifier e.logical (identifier-bounds f) (logical-bounds f)) ∙ c.if-not-are_spelt.true)

pub returns : goal.returns
returns c r framed alone seal_alone =
    let a = c.args in
    let f = found (goal.at.returns c).After-listed_of (Some c.in-Some.listed) c.in-Some.ensures r framed alone seal_alone in
    let e = element_in a.shape a.s.now r in
    rw c.row_of.ensures
    (sees-well f a.whole (sym c.is_tabled.ensures ∙ c.if-not-is_tabled.false) c.in-Some-object_type.object
    (c.in-Some-object_type.ensures.1 (first_value a.shape.object (tree_in a.s.now r)) (framed.object.value c.requires.0.made.object))
    c.in-Some-object_type.ensures.0 c.requires.0.whole_placed c.requires.0.content
    (sym (c.are_spelt.ensures e.identifier e.logical (identifier-bounds f) (logical-bounds f)) ∙ c.if-not-are_spelt.false))
