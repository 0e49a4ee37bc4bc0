-- What an element says, rules 12 to 14, and the judge of a letter: "Then elements in order, 9 to 15 in order within each." Document 01,
-- "Element rules" and "Numbers given back". Over the tree of items alone, never places or length octets.
use Rattle.std.specs.Prelude.{ℕ, ◌%◌, Bool, cond, false, true, not, ◌&&◌, ◌||◌, List, [], ◌∷◌, ◌++◌, map, eqb, ltb, leb, length}
use Rattle.std.specs.Bool.{xor}
use Rattle.std.proofs.Math.Option.{Option, none, some}
use Rattle.tree.specs.Tree.{empty, Tree, leaf, branch}
use Rattle.names.specs.Names.{is_identifier, same}
use Rattle.rows.specs.Rows.{name_space_of}
use Rattle.contents.specs.Search.{Value, first_run, absent, first_value, amount, octets, in_order, is}
use Rattle.contents.specs.declared.Slot.{Slot}
use Rattle.pieces.specs.Pieces.{joined, octet_pieces, bit_pieces}
use Rattle.portions.specs.Portions.{all, any, all_portions, values, well_spelt, repeats}
use Rattle.elements.specs.declared.Edition.{Edition}
use Rattle.elements.specs.Shape.{ContentItem, whole, pieced, octet_string, octet_string_or_tiles}
use Rattle.elements.specs.Shape.{Contents, profile, described, unit, style, protected, Shape, shape_of}

-- where the items stand that name an element: nowhere, "in the 31", or "in a style" among its own items
unfoldable pub body_of : Contents → Tree → Tree
body_of profile run = empty
body_of (described needed types) run = first_run 0x31 run
body_of (unit needed tiled) run = first_run 0x31 run
body_of style run = run
body_of (protected enciphered) run = empty

-- what is looked for in an element: of each item its octet, if there is one to be looked for
pub record Looks : Type 0 where
  -- "at most one 41 (its identifier)", "at most one 40 (layout identifier)", "exactly one 45"
  pub identifier : Option ℕ
  -- "41 required in the 31" of a class; "exactly one 45"
  pub needed : Bool
  -- "at most one 84 (logical identifier)"
  pub logical : Option ℕ
  -- "at most one A1 (portions, ..)"
  pub portions : Option ℕ
  -- "no 61 and no 81", "no 60 and no A4", "In a style: no 65"
  pub barred : List ℕ
  -- the item with the object type, and how many types there are
  pub typed : Option ℕ
  pub types : ℕ
  -- the items that may hold content; "Enciphered information is an octet string whose bounds go in the content fields" (W-213)
  pub holders : List ContentItem

-- a row of document 01's table each
abbrev pub looks_of : Contents → Looks
looks_of profile = record { identifier = none; needed = false; logical = none; portions = none; barred = []; typed = none; types = 0; holders = [] }
looks_of (described needed types) =
    let barred : List ℕ = 0x61 ∷ 0x81 ∷ [] in
    record { identifier = some 0x41; needed = needed; logical = none; portions = some 0xA1; barred = barred; typed = some 0x02; types = types; holders = [] }
looks_of (unit needed tiled) =
    let barred : List ℕ = 0x60 ∷ 0xA4 ∷ [] in
    let holders = cond tiled octet_string_or_tiles octet_string in
    record { identifier = some 0x40; needed = false; logical = some 0x84; portions = none; barred = barred; typed = none; types = 0; holders = holders }
looks_of style = record { identifier = some 0x45; needed = true; logical = none; portions = none; barred = 0x65 ∷ []; typed = none; types = 0; holders = [] }
looks_of (protected enciphered) =
    let holders = cond enciphered octet_string [] in
    record { identifier = none; needed = false; logical = none; portions = none; barred = []; typed = none; types = 0; holders = holders }

abbrev pub identifier_octet : Contents → Option ℕ
identifier_octet contents = (looks_of contents).identifier

abbrev pub identifier_needed : Contents → Bool
identifier_needed contents = (looks_of contents).needed

abbrev pub logical_octet : Contents → Option ℕ
logical_octet contents = (looks_of contents).logical

abbrev pub portions_octet : Contents → Option ℕ
portions_octet contents = (looks_of contents).portions

abbrev pub barred : Contents → List ℕ
barred contents = (looks_of contents).barred

abbrev pub type_octet : Contents → Option ℕ
type_octet contents = (looks_of contents).typed

abbrev pub types_of : Contents → ℕ
types_of contents = (looks_of contents).types

abbrev pub holders_of : Contents → List ContentItem
holders_of contents = (looks_of contents).holders

-- the item that holds the bit string of a sealed profile in pieces, 23; it is no content
abbrev pub seal_octet : Contents → Option ℕ
seal_octet profile = none
seal_octet (described needed types) = none
seal_octet (unit needed tiled) = none
seal_octet style = none
seal_octet (protected enciphered) = cond enciphered none (some 0x23)

abbrev pub octet_of : ContentItem → ℕ
octet_of (whole octet) = octet
octet_of (pieced octet) = octet

-- of the items with an octet, if one is looked for: the first value, the first run, and how many there are
abbrev pub value_at : Option ℕ → Tree → Value
value_at none run = absent
value_at (some octet) run = first_value octet run

abbrev pub run_at : Option ℕ → Tree → Tree
run_at none run = empty
run_at (some octet) run = first_run octet run

abbrev pub amount_at : Option ℕ → Tree → ℕ
amount_at none run = 0
amount_at (some octet) run = amount octet run

-- "object type (255 if none)"
abbrev pub no_type : ℕ
no_type = 255

abbrev pub type_of : Value → ℕ
type_of absent = no_type
type_of (octets []) = no_type
type_of (octets (x ∷ xs)) = x

abbrev pub none_of : (octet : ℕ) → Tree → Bool
none_of octet run = eqb (amount octet run) 0

-- A content: the value of one item, if there is one; or pieces, "the octet string is constructed, 24" (W-201), or tiles, 30 (W-213).
pub data Content : Type 0 where
  single : Value → Content
  in_pieces : Tree → Content

-- what the first of some items that is there holds
abbrev pub content_in : List ContentItem → Tree → Content
content_in [] run = single absent
content_in (whole octet ∷ others) run = cond (none_of octet run) (content_in others run) (single (first_value octet run))
content_in (pieced octet ∷ others) run = cond (none_of octet run) (content_in others run) (in_pieces (first_run octet run))

-- the content of an element with this run of items
unfoldable pub content_of : Contents → Tree → Content
content_of contents run = content_in (holders_of contents) run

-- the octets of a value, none if it is absent
abbrev pub bytes_of : Value → List ℕ
bytes_of absent = []
bytes_of (octets bytes) = bytes

-- "The content is the pieces joined in order", "a 04 being one piece" (W-201)
abbrev pub joined_content : Content → List ℕ
joined_content (single value) = bytes_of value
joined_content (in_pieces run) = joined run

-- "12 for any other item among the pieces" (W-201)
abbrev pub pieces_alone : Content → Bool
pieces_alone (single value) = true
pieces_alone (in_pieces run) = octet_pieces run

-- nothing but 03 and 23 items stands among the pieces of a sealed profile's bit string
abbrev pub seal_alone : Option ℕ → Tree → Bool
seal_alone none run = true
seal_alone (some octet) run = bit_pieces (first_run octet run)

-- What an element says: "kind (the number bits of the element's octet ..), object type", its identifier (a unit's layout one), a unit's
-- logical identifier, its portions and its content.
pub record Element : Type 0 where
  pub kind : ℕ
  pub object : ℕ
  pub identifier : Value
  pub logical : Value
  pub portions : List (List ℕ)
  pub content : Content

-- what an element of a shape with this run of items says
unfoldable pub element_of : Shape → Tree → Element
element_of shape run =
    let contents = shape.contents in
    let body = body_of contents run in
    record {
      kind = shape.octet % 32;
      object = type_of (value_at (type_octet contents) run);
      identifier = value_at (identifier_octet contents) body;
      logical = value_at (logical_octet contents) body;
      portions = values (run_at (portions_octet contents) body);
      content = content_of contents run;
    }

-- an item that is required, one that may be missing, and either
abbrev pub required : ℕ → Slot
required octet = record { octet = octet; needed = true }

abbrev pub optional : ℕ → Slot
optional octet = record { octet = octet; needed = false }

abbrev pub asked : (needed : Bool) → ℕ → Slot
asked needed octet = record { octet = octet; needed = needed }

-- of two items in order, the second is one of some
abbrev pub in_order_with : (one : Slot) (needed : Bool) → List ℕ → Tree → Bool
in_order_with one needed seconds run = any (map (λ octet. in_order one (asked needed octet) run) seconds)

-- the second item of a protected part: what is sealed is told by a bit string, what is enciphered is in an octet string
abbrev pub protected_octets : (enciphered : Bool) → List ℕ
protected_octets enciphered = cond enciphered (0x24 ∷ 0x04 ∷ []) (0x23 ∷ 0x03 ∷ [])

-- "02, then 31", "02 or nothing, then 31 or nothing", "31 or nothing, then 04"; 47, then one more; or the items are free
unfoldable pub items_in_order : Contents → Tree → Bool
items_in_order profile run = true
items_in_order (described needed types) run = in_order (asked needed 0x02) (asked needed 0x31) run
items_in_order (unit needed tiled) run = in_order_with (optional 0x31) needed (map octet_of (holders_of (unit needed tiled))) run
items_in_order style run = true
items_in_order (protected enciphered) run = in_order_with (required 0x47) true (protected_octets enciphered) run

-- 12 "contents not as tabled"
unfoldable pub as_tabled : Contents → Tree → Bool
as_tabled contents run =
    let body = body_of contents run in
    let identifiers = amount_at (identifier_octet contents) body in
    all (items_in_order contents run
    ∷ pieces_alone (content_of contents run)
    ∷ seal_alone (seal_octet contents) run
    ∷ not (identifier_needed contents && eqb identifiers 0)
    ∷ leb identifiers 1
    ∷ leb (amount_at (logical_octet contents) body) 1
    ∷ leb (amount_at (portions_octet contents) body) 1
    ∷ all_portions (run_at (portions_octet contents) body)
    ∷ map (λ octet. none_of octet body) (barred contents))

-- 13 "object type outside its range or not one octet"
abbrev pub type_fits : (types : ℕ) → Value → Bool
type_fits types absent = true
type_fits types (octets []) = false
type_fits types (octets (x ∷ [])) = ltb x types
type_fits types (octets (x ∷ y ∷ ys)) = false

-- 14 "identifier or portion misspelt, or a 65th portion"
abbrev pub spelt : Value → Bool
spelt absent = true
spelt (octets bytes) = is_identifier bytes

unfoldable pub names_fit : Element → Bool
names_fit e = all (spelt e.identifier ∷ spelt e.logical ∷ well_spelt e.portions ∷ [])

-- "4,097th element"
abbrev pub most_elements : ℕ
most_elements = 4096

-- "The profile is first and only there."
abbrev pub profile_octet : ℕ
profile_octet = 0xA0

-- whether two values are there and the same, byte by byte
abbrev pub shares : Value → Value → Bool
shares absent w = false
shares (octets xs) absent = false
shares (octets xs) (octets ys) = same xs ys

-- "No two classes or objects share an identifier, no two styles, no two units a layout identifier, no two units a logical identifier"
unfoldable pub clash : Element → Element → Bool
clash d e = eqb (name_space_of d.kind) (name_space_of e.kind) && (shares d.identifier e.identifier || shares d.logical e.logical)

-- "and no element lists a portion twice"
unfoldable pub twice : (done : List Element) → Element → Bool
twice done e = any (map (λ d. clash d e) done) || repeats e.portions

-- a refusal number with its condition; of a list the first that refuses counts, and 0 is none
pub record Rule : Type 0 where
  pub number : ℕ
  pub refuses : Bool

infixl 20 ◌when◌
abbrev pub ◌when◌ : ℕ → Bool → Rule
n when b = record { number = n; refuses = b }

abbrev pub first_of : List Rule → ℕ
first_of [] = 0
first_of (r ∷ rs) = cond r.refuses r.number (first_of rs)

-- rules 9 to 11, for an element after n others: they look at its type field alone. `known` is the octet of its shape.
abbrev pub place_rules : (n known : ℕ) → (type : List ℕ) → List Rule
place_rules n known type =
    (9 when leb most_elements n)
    ∷ (10 when not (is known type))
    ∷ (11 when xor (eqb n 0) (is profile_octet type))
    ∷ []

-- rules 12 to 14, by whether the contents are as tabled, the object type is in its range, and the names are well spelt
abbrev pub contents_rules : (tabled fits spelt : Bool) → List Rule
contents_rules tabled fits spelt =
    (12 when not tabled)
    ∷ (13 when not fits)
    ∷ (14 when not spelt)
    ∷ []

-- rules 12 to 14 of an element with a shape and a run of items
abbrev pub shape_rules : Shape → Tree → List Rule
shape_rules shape run =
    let contents = shape.contents in
    contents_rules (as_tabled contents run) (type_fits (types_of contents) (value_at (type_octet contents) run)) (names_fit (element_of shape run))

-- rules 9 to 15 for an element with a type field and a run of items, after those that are done
unfoldable pub refusal_of : Edition → (done : List Element) → (type : List ℕ) → Tree → ℕ
refusal_of edition done type run =
    let shape = shape_of edition type in
    first_of (place_rules (length done) shape.octet type
    ++ shape_rules shape run
    ++ (15 when twice done (element_of shape run)) ∷ [])

-- A letter is accepted with what its elements say, or refused by a number at an element, counted from 0.
pub data Judged : Type 0 where
  accepted : List Element → Judged
  refused : (number element : ℕ) → Judged

-- one element, and then what more says of those after it
unfoldable pub judge_one : Edition → (done : List Element) → (type : List ℕ) → Tree → (List Element → Judged) → Judged
judge_one edition done type run more =
    let n = refusal_of edition done type run in
    cond (eqb n 0) (more (done ++ (element_of (shape_of edition type) run ∷ []))) (refused n (length done))

-- the elements of a run, after those that are done
unfoldable pub judge_from : Edition → (done : List Element) → Tree → Judged
judge_from edition done empty = accepted done
judge_from edition done (leaf type value after) = judge_one edition done type empty (λ more. judge_from edition more after)
judge_from edition done (branch type inside after) = judge_one edition done type inside (λ more. judge_from edition more after)

-- a stream's tree; 11 "or the stream is empty"
unfoldable pub judge : Edition → Tree → Judged
judge edition empty = refused 11 0
judge edition (leaf type value after) = judge_from edition [] (leaf type value after)
judge edition (branch type inside after) = judge_from edition [] (branch type inside after)
