-- A shape as the code looks for it: in slots, of which most are empty, and an octet 0 stands for none, since no item has it. What an
-- element says and is refused by, by its slots; `Slotting` among the proofs says that this is what the shape says.
use Rattle.std.specs.Prelude.{ℕ, ◌%◌, Bool, true, false, cond, not, ◌&&◌, ◌||◌, List, [], ◌∷◌, eqb, leb}
use Rattle.octets.specs.Walk.{Items, no_items}
use Rattle.tree.specs.Tree.{Tree, empty, plain}
use Rattle.contents.specs.declared.Slot.{Slot}
use Rattle.contents.specs.Search.{first_value, first_run, bounds_of, items_in, in_order, amount}
use Rattle.pieces.specs.Pieces.{bit_pieces}
use Rattle.portions.specs.Portions.{all, all_portions, values}
use Rattle.elements.specs.declared.Row.{Row}
use Rattle.elements.specs.declared.Slots.{Slots}
use Rattle.elements.specs.Shape.{Contents, profile, described, unit, style, protected, Shape}
use Rattle.elements.specs.Judge.{required, optional, asked, type_of, none_of, Content, single, in_pieces, pieces_alone}
use Rattle.elements.specs.Judge.{Element, type_fits, names_fit, first_of, contents_rules}

-- no item, and one that is needed and that no element has
abbrev pub nothing : Slot
nothing = optional 0

abbrev pub no_item : Slot
no_item = required 0

-- no item of a profile is looked at
abbrev pub profile_slots : (octet : ℕ) → Slots
profile_slots octet = record {
  octet = octet;
  looked = false;
  free = true;
  one = nothing;
  two = nothing;
  instead = nothing;
  tiles = nothing;
  within = 0;
  identifier = nothing;
  logical = 0;
  portions = 0;
  never = 0;
  neither = 0;
  object = 0;
  types = 0;
  content = 0;
  pieces = 0;
  seal = 0;
}

-- a class or an object
abbrev pub described_slots : (octet : ℕ) (needed : Bool) (types : ℕ) → Slots
described_slots octet needed types = record {
  octet = octet;
  looked = true;
  free = false;
  one = asked needed 0x02;
  two = asked needed 0x31;
  instead = asked needed 0x31;
  tiles = no_item;
  within = 0x31;
  identifier = asked needed 0x41;
  logical = 0;
  portions = 0xA1;
  never = 0x61;
  neither = 0x81;
  object = 0x02;
  types = types;
  content = 0;
  pieces = 0;
  seal = 0;
}

-- a text unit
abbrev pub unit_slots : (octet : ℕ) (needed : Bool) (tiles : Slot) → Slots
unit_slots octet needed tiles = record {
  octet = octet;
  looked = true;
  free = false;
  one = optional 0x31;
  two = asked needed 0x04;
  instead = asked needed 0x24;
  tiles = tiles;
  within = 0x31;
  identifier = optional 0x40;
  logical = 0x84;
  portions = 0;
  never = 0x60;
  neither = 0xA4;
  object = 0;
  types = 0;
  content = 0x04;
  pieces = 0x24;
  seal = 0;
}

-- a style
abbrev pub style_slots : (octet : ℕ) → Slots
style_slots octet = record {
  octet = octet;
  looked = true;
  free = true;
  one = nothing;
  two = nothing;
  instead = nothing;
  tiles = nothing;
  within = 0;
  identifier = required 0x45;
  logical = 0;
  portions = 0;
  never = 0x65;
  neither = 0;
  object = 0;
  types = 0;
  content = 0;
  pieces = 0;
  seal = 0;
}

-- a protected part: nothing names it. Its second item is a string, which is content, or a seal
abbrev pub protected_slots : (octet second instead content pieces seal : ℕ) → Slots
protected_slots octet second instead content pieces seal = record {
  octet = octet;
  looked = false;
  free = false;
  one = required 0x47;
  two = required second;
  instead = required instead;
  tiles = no_item;
  within = 0;
  identifier = nothing;
  logical = 0;
  portions = 0;
  never = 0;
  neither = 0;
  object = 0;
  types = 0;
  content = content;
  pieces = pieces;
  seal = seal;
}

-- an octet string that is content, and a bit string
abbrev pub enciphered_slots : (octet : ℕ) → Slots
enciphered_slots octet = protected_slots octet 0x04 0x24 0x04 0x24 0

abbrev pub sealed_slots : (octet : ℕ) → Slots
sealed_slots octet = protected_slots octet 0x03 0x23 0 0 0x23

-- the slots of a shape
abbrev pub slots_by : (octet : ℕ) → Contents → Slots
slots_by octet profile = profile_slots octet
slots_by octet (described needed types) = described_slots octet needed types
slots_by octet (unit needed tiled) = unit_slots octet needed (cond tiled (asked needed 0x30) no_item)
slots_by octet style = style_slots octet
slots_by octet (protected enciphered) = cond enciphered (enciphered_slots octet) (sealed_slots octet)

abbrev pub slots_of : Shape → Slots
slots_of shape = slots_by shape.octet shape.contents

-- where the items stand that name an element: nowhere, among its own items, or in one of them
unfoldable pub slot_body : Slots → Tree → Tree
slot_body shape run = cond shape.looked (cond (eqb shape.within 0) run (first_run shape.within run)) empty

-- the items of `slot_body`, with places
unfoldable pub slot_items : Slots → Items → Items
slot_items shape items = cond shape.looked (cond (eqb shape.within 0) items (items_in shape.within items)) no_items

-- the content, and the octet of the item that holds it
unfoldable pub slot_content : Slots → Tree → Content
slot_content shape run =
    cond (none_of shape.pieces run)
    (cond (none_of shape.tiles.octet run) (single (first_value shape.content run)) (in_pieces (first_run shape.tiles.octet run)))
    (in_pieces (first_run shape.pieces run))

unfoldable pub slot_octet : Slots → Tree → ℕ
slot_octet shape run = cond (none_of shape.pieces run) (cond (none_of shape.tiles.octet run) shape.content shape.tiles.octet) shape.pieces

-- what the element says
unfoldable pub slot_element : Slots → Tree → Element
slot_element shape run =
    let body = slot_body shape run in
    record {
      kind = shape.octet % 32;
      object = type_of (first_value shape.object run);
      identifier = first_value shape.identifier.octet body;
      logical = first_value shape.logical body;
      portions = values (first_run shape.portions body);
      content = slot_content shape run;
    }

-- its items are free, or stand in order, the second as tabled or one of those that may stand instead of it
unfoldable pub slot_ordered : Slots → Tree → Bool
slot_ordered shape run =
    shape.free
    || (in_order shape.one shape.two run || (in_order shape.one shape.instead run || in_order shape.one shape.tiles run))

-- at most one item of a run has the octet
abbrev pub at_most_one : (octet : ℕ) → Tree → Bool
at_most_one octet run = leb (amount octet run) 1

-- 12
unfoldable pub slot_tabled : Slots → Tree → Bool
slot_tabled shape run =
    let body = slot_body shape run in
    all (slot_ordered shape run
    ∷ pieces_alone (slot_content shape run)
    ∷ bit_pieces (first_run shape.seal run)
    ∷ not (shape.identifier.needed && none_of shape.identifier.octet body)
    ∷ at_most_one shape.identifier.octet body
    ∷ at_most_one shape.logical body
    ∷ at_most_one shape.portions body
    ∷ none_of shape.never body
    ∷ none_of shape.neither body
    ∷ all_portions (first_run shape.portions body)
    ∷ [])

-- 12 to 14
unfoldable pub slot_refusal : Slots → Tree → ℕ
slot_refusal shape run =
    first_of (contents_rules (slot_tabled shape run) (type_fits shape.types (first_value shape.object run)) (names_fit (slot_element shape run)))

-- its row
unfoldable pub slot_row : Slots → List ℕ → (first past : ℕ) → Items → Row
slot_row shape s first past items =
    let body = slot_items shape items in
    let says = slot_element shape (plain s items) in
    record {
      kind = says.kind;
      object = says.object;
      whole = record { first = first; past = past };
      identifier = bounds_of shape.identifier.octet body;
      logical = bounds_of shape.logical body;
      portions = bounds_of shape.portions body;
      content = bounds_of (slot_octet shape (plain s items)) items;
    }
