-- What is asked of a run of items, not looking inside them: how many have an octet, and the first that has it; then which items an
-- element may have, and in which order. "In the 31", "in it" and "in a style" of document 01 mean the direct items.
use Rattle.std.specs.Prelude.{ℕ, ◌+◌, Bool, cond, true, false, ◌&&◌, ◌||◌, not, List, eqb}
use Rattle.headers.specs.Head.{code_of}
use Rattle.octets.specs.Walk.{Items, no_items, item}
use Rattle.tree.specs.Tree.{empty, Tree, leaf, branch}
use Rattle.contents.specs.declared.Span.{Span}
use Rattle.contents.specs.declared.Slot.{Slot}

-- whether a type field is the one that is sought, by its code; that of one octet is the octet
abbrev pub is : (octet : ℕ) → (type : List ℕ) → Bool
is octet type = eqb (code_of type) octet

-- how many items of a run have the octet
unfoldable pub amount : (octet : ℕ) → Tree → ℕ
amount octet empty = 0
amount octet (leaf type value after) = cond (is octet type) 1 0 + amount octet after
amount octet (branch type inside after) = cond (is octet type) 1 0 + amount octet after

-- the value octets of a primitive item, if it is there
pub data Value : Type 0 where
  absent : Value
  octets : List ℕ → Value

-- the value of the first primitive item with the octet
unfoldable pub first_value : (octet : ℕ) → Tree → Value
first_value octet empty = absent
first_value octet (leaf type value after) = cond (is octet type) (octets value) (first_value octet after)
first_value octet (branch type inside after) = first_value octet after

-- the run inside the first constructed item with the octet; nothing, if there is none
unfoldable pub first_run : (octet : ℕ) → Tree → Tree
first_run octet empty = empty
first_run octet (leaf type value after) = first_run octet after
first_run octet (branch type inside after) = cond (is octet type) inside (first_run octet after)

-- the pair of what is absent
abbrev pub no_span : Span
no_span = record { first = 0; past = 0 }

-- "first and past .. All pairs but the element's bound a value": the bounds of the value of the first item with the octet.
-- "Absent is 0 and 0."
unfoldable pub bounds_of : (octet : ℕ) → Items → Span
bounds_of octet no_items = no_span
bounds_of octet (item at type first past inside after) = cond (eqb type octet) (record { first = first; past = past }) (bounds_of octet after)

-- the items inside the first item with the octet
unfoldable pub items_in : (octet : ℕ) → Items → Items
items_in octet no_items = no_items
items_in octet (item at type first past inside after) = cond (eqb type octet) inside (items_in octet after)

-- nothing more
abbrev pub is_empty : Tree → Bool
is_empty empty = true
is_empty (leaf type value after) = false
is_empty (branch type inside after) = false

-- an item with the octet, and then what rest asks
abbrev pub starts : (octet : ℕ) → (rest : Tree → Bool) → Tree → Bool
starts octet rest empty = false
starts octet rest (leaf type value after) = is octet type && rest after
starts octet rest (branch type inside after) = is octet type && rest after

-- "31, then .." where the item is needed, "31 or nothing, then .." where it is not
abbrev pub slot : Slot → (rest : Tree → Bool) → Tree → Bool
slot x rest t = starts x.octet rest t || not x.needed && rest t

-- two items in order, each needed or not, and no others
unfoldable pub in_order : (one two : Slot) → Tree → Bool
in_order one two = slot one (slot two is_empty)
