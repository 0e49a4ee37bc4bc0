-- When a stream is refused by each of 1 to 15, said as conditions and not as an order of tests. Document 01, "Numbers given back": "Each is
-- given exactly when its condition holds and no earlier one does." 2 to 8 are the walk's: their conditions are in headers, specs/Conditions.
-- That the tests say the same is `refused_is` (specs/Demands, Demand2).
use Rattle.std.specs.Prelude.{◌≡◌, true, false, List, [], ◌∷◌, map, ℕ, ◌<◌, ◌≤◌, length, take}
use Rattle.std.proofs.Math.Option.{some}
use Rattle.std.proofs.Math.ListN.{get_elem?}
use Rattle.octets.specs.Walk.{Items, stream_limit, deepest, ends, stops}
use Rattle.octets.specs.Rules.{Runs}
use Rattle.tree.specs.Tree.{Tree, empty, leaf, branch, tree_of}
use Rattle.contents.specs.Search.{is}
use Rattle.elements.specs.declared.Edition.{Edition}
use Rattle.elements.specs.Shape.{Contents, Shape, shapes_of, shape_of}
use Rattle.elements.specs.Judge.{type_octet, types_of, value_at, Element, element_of, as_tabled, type_fits, names_fit, most_elements, profile_octet, twice}
use Rattle.elements.specs.ElementRows.{place_of}
use Rattle.letters.specs.Letter.{items_of_stream}

-- an element as it stands in the tree: its type field, and the run of items inside it
pub record TopItem : Type 0 where
  pub type : List ℕ
  pub run : Tree

abbrev pub top_items : Tree → List TopItem
top_items empty = []
top_items (leaf type value after) = record { type = type; run = empty } ∷ top_items after
top_items (branch type inside after) = record { type = type; run = inside } ∷ top_items after

-- what its shape says that it contains, and what it says, whether or not a rule refuses it
abbrev pub contents_in : Edition → TopItem → Contents
contents_in edition item = (shape_of edition item.type).contents

abbrev pub says_in : Edition → TopItem → Element
says_in edition item = element_of (shape_of edition item.type) item.run

-- a rule of 9 to 15 refuses an element that stands after these
pub data Refuses (edition : Edition) (before : List TopItem) (item : TopItem) : (number : ℕ) → Type 0 where
  -- "4,097th element"
  too_many : most_elements ≤ length before → Refuses edition before item 9
  -- "octet not in the element table": it is that of no shape of the edition
  unknown : ((k : ℕ) (shape : Shape) → get_elem? (shapes_of edition) k ≡ some shape → is shape.octet item.type ≡ false)
      → Refuses edition before item 10
  -- "first is no profile"
  no_profile : length before ≡ 0 → is profile_octet item.type ≡ false → Refuses edition before item 11
  -- "a later one is"
  later_profile : 0 < length before → is profile_octet item.type ≡ true → Refuses edition before item 11
  -- "contents not as tabled"
  misshapen : as_tabled (contents_in edition item) item.run ≡ false → Refuses edition before item 12
  -- "object type outside its range or not one octet"
  mistyped : type_fits (types_of (contents_in edition item)) (value_at (type_octet (contents_in edition item)) item.run) ≡ false
      → Refuses edition before item 13
  -- "identifier or portion misspelt, or a 65th portion"
  misspelt : names_fit (says_in edition item) ≡ false → Refuses edition before item 14
  -- "an identifier or portion twice"
  repeated : twice (map (says_in edition) before) (says_in edition item) ≡ true → Refuses edition before item 15

-- "elements in order, 9 to 15 in order within each": rule `number` refuses element j, no earlier rule does, and all before j pass
pub record RefusedAt (edition : Edition) (items : List TopItem) (number j : ℕ) : Type 0 where
  pub item : TopItem
  pub there : get_elem? items j ≡ some item
  pub refuses : Refuses edition (take j items) item number
  pub no_earlier : (n : ℕ) → n < number → Refuses edition (take j items) item n → ⊥
  pub all_before : (i : ℕ) (other : TopItem) → i < j → get_elem? items i ≡ some other → (n : ℕ) → Refuses edition (take i items) other n → ⊥

-- a tree of items is refused by 9 to 15 at an element
pub data RefusedBy (edition : Edition) (t : Tree) : (number j : ℕ) → Type 0 where
  -- 11 "or the stream is empty"
  no_element : t ≡ empty → RefusedBy edition t 11 0
  at_element : {number j : ℕ} → RefusedAt edition (top_items t) number j → RefusedBy edition t number j

-- a stream is refused by 1 to 15 at a place
pub data RefusedWith (edition : Edition) (s : List ℕ) : (number place : ℕ) → Type 0 where
  -- "Refusal 1 comes first."
  too_long : stream_limit < length s → RefusedWith edition s 1 0
  -- "Then the whole stream is walked for 2 to 8": by the rules of the walk it stops there, where the condition of the number holds and none
  -- of an earlier one, or at the limit of an item that is unclosed there
  at_fault : {number place : ℕ} {items : Items} → length s ≤ stream_limit → Runs s deepest 0 (length s) false items (stops number place)
      → RefusedWith edition s number place
  -- "Then elements in order, 9 to 15 in order within each": the walk ended, and the place is where the element stands
  by_element : {number j end : ℕ} {items : Items} → length s ≤ stream_limit → Runs s deepest 0 (length s) false items (ends end)
      → RefusedBy edition (tree_of s) number j → RefusedWith edition s number (place_of j (items_of_stream s))
