-- What an element says and is refused by is the same by its shape and by its slots, in a run of which no item has octet 0: what is sought by
-- an empty slot is then not found.
use mathlib.Core.Path.{◌≡◌, refl, ap, subst}
use mathlib.Core.Bool.{Bool, true, false, cond, not, ◌&&◌, ◌||◌}
use mathlib.Core.List.{List}
use mathlib.Core.Option.{Option, none, some}
use Prim.Native.Nat.{ℕ, ◌+◌}
use native.Mathlib.Omega.{arith}
use borrow.Author.Tests.{eqb-true}
use borrow.Table.Steps.{cases}
use Rattle.octets.specs.Walk.{Items}
use Rattle.tree.specs.Tree.{Tree, empty, leaf, branch, plain}
use Rattle.runs.specs.declared.Run.{Run}
use Rattle.runs.specs.Runs.{items_of, tree_in, Fine}
use Rattle.contents.specs.declared.Span.{Span}
use Rattle.contents.specs.Search.{is, absent, amount, first_value, first_run, bounds_of, items_in, is_empty, slot, in_order}
use Rattle.pieces.specs.Pieces.{only_pieces}
use Rattle.portions.specs.Portions.{all_portions, values}
use Rattle.elements.specs.declared.Holder.{Holder}
use Rattle.elements.specs.declared.Row.{Row}
use Rattle.std.specs.Prelude.{Result}
use Rattle.elements.specs.declared.Seen.{Seen}
use Rattle.contents.specs.declared.Slot.{Slot}
use Rattle.elements.specs.Shape.{Contents, profile, described, unit, style, protected, Shape}
use Rattle.elements.specs.Judge.{required, optional, asked, none_of, type_octet, types_of, value_at, Content, single, in_pieces, content_of, Element, body_of}
use Rattle.elements.specs.Judge.{element_of, items_in_order, as_tabled, type_fits}
use Rattle.elements.specs.ShapeRefusal.{shape_refusal}
use Rattle.elements.specs.ElementRows.{body_in, content_octet, bounds_at, items_at, row_of}
use Rattle.elements.specs.Frames.{Holding, HoldingShape, HoldingSlots}
use Rattle.elements.specs.Sees.{Sees, SeesShape, SeesSlots}
use Rattle.elements.specs.Slots.{no_item, slots_by, slots_of, slot_body, slot_items, slot_content, slot_octet, slot_element, slot_ordered, slot_tabled}
use Rattle.elements.specs.Slots.{slot_refusal, slot_row}
use Rattle.elements.proofs.Bounding.{none-bounds, none-items}
use Rattle.elements.proofs.Zero.{no_zero, no-zero-inside, no-zero-items}

and-false : (b : Bool) → b && false ≡ false
and-false true = refl
and-false false = refl

neither : (a b : Bool) → a && false || b && false ≡ false
neither a b = rw (and-false a, and-false b)

-- of what is not there the first value and the first run are none
none_here : (b : Bool) (n : ℕ) → cond {A = ℕ} b 1 0 + n ≡ 0 → (b ≡ false) × (n ≡ 0)
none_here true n e = absurd (omega arith)
none_here false n e = (refl, omega arith)

no_value : (octet : ℕ) (t : Tree) → amount octet t ≡ 0 → first_value octet t ≡ absent
unfolding amount first_value
no_value octet empty e = refl
no_value octet (leaf type value after) e = let k = none_here (is octet type) (amount octet after) e in rw k.0 (no_value octet after k.1)
no_value octet (branch type inside after) e = no_value octet after (none_here (is octet type) (amount octet after) e).1

no_run : (octet : ℕ) (t : Tree) → amount octet t ≡ 0 → first_run octet t ≡ empty
unfolding amount first_run
no_run octet empty e = refl
no_run octet (leaf type value after) e = no_run octet after (none_here (is octet type) (amount octet after) e).1
no_run octet (branch type inside after) e = let k = none_here (is octet type) (amount octet after) e in rw k.0 (no_run octet after k.1)

-- an item that no element has stands nowhere
no-item : (t : Tree) → amount 0 t ≡ 0 → slot no_item is_empty t ≡ false
unfolding amount
no-item empty e = refl
no-item (leaf type value after) e = rw (none_here (is 0 type) (amount 0 after) e).0
no-item (branch type inside after) e = rw (none_here (is 0 type) (amount 0 after) e).0

no-order : (one : Slot) (t : Tree) → amount 0 t ≡ 0 → in_order one no_item t ≡ false
unfolding in_order amount
no-order one empty e = and-false (not one.needed)
no-order one (leaf type value after) e =
    let here = no-item (leaf type value after) e in
    let on = no-item after (none_here (is 0 type) (amount 0 after) e).1 in
    rw (on, here) (neither (is one.octet type) (not one.needed))
no-order one (branch type inside after) e =
    let here = no-item (branch type inside after) e in
    let on = no-item after (none_here (is 0 type) (amount 0 after) e).1 in
    rw (on, here) (neither (is one.octet type) (not one.needed))

or_same : (a : Bool) → a || (a || false) ≡ a
or_same true = refl
or_same false = refl

or_turned : (a b : Bool) → a || (b || false) ≡ b || (a || false)
or_turned true true = refl
or_turned true false = refl
or_turned false true = refl
or_turned false false = refl

or-last : (a b c : Bool) → a || (b || c) ≡ b || (c || (a || false))
or-last true true c = refl
or-last true false true = refl
or-last true false false = refl
or-last false true c = refl
or-last false false true = refl
or-last false false false = refl

octet-by : (octet : ℕ) (contents : Contents) → (slots_by octet contents).octet ≡ octet
octet-by octet profile = refl
octet-by octet (described needed types) = refl
octet-by octet (unit needed tiled) = refl
octet-by octet style = refl
octet-by octet (protected true) = refl
octet-by octet (protected false) = refl

pub octet-same : (shape : Shape) → (slots_of shape).octet ≡ shape.octet
octet-same shape = octet-by shape.octet shape.contents

-- a content that is one value, whether or not its item is there
one_value : (octet : ℕ) (t : Tree) → single (first_value octet t) ≡ cond (none_of octet t) (single absent) (single (first_value octet t))
one_value octet t =
    cases (none_of octet t) (λ e. rw e (ap single (no_value octet t (eqb-true (amount octet t) 0 e)))) (λ e. rw e)

no_content : (t : Tree) → amount 0 t ≡ 0
    → cond (none_of 0 t) (cond (none_of 0 t) (single (first_value 0 t)) (in_pieces (first_run 0 t))) (in_pieces (first_run 0 t)) ≡ single absent
no_content t z = rw z (ap single (no_value 0 t z))

content-same : (octet : ℕ) (contents : Contents) (run : Tree) → amount 0 run ≡ 0
    → slot_content (slots_by octet contents) run ≡ content_of contents run
unfolding slot_content content_of
content-same octet profile run z = no_content run z
content-same octet (described needed types) run z = no_content run z
content-same octet (unit needed false) run z =
    rw z (ap (λ (c : Content). cond (none_of 0x24 run) c (in_pieces (first_run 0x24 run))) (one_value 0x04 run))
content-same octet (unit needed true) run z =
    (ap (λ (c : Content). cond (none_of 0x24 run) (cond (none_of 0x30 run) c (in_pieces (first_run 0x30 run))) (in_pieces (first_run 0x24 run)))
    (one_value 0x04 run))
content-same octet style run z = no_content run z
content-same octet (protected true) run z =
    rw z (ap (λ (c : Content). cond (none_of 0x24 run) c (in_pieces (first_run 0x24 run))) (one_value 0x04 run))
content-same octet (protected false) run z = no_content run z

ordered_same : (octet : ℕ) (contents : Contents) (run : Tree) → amount 0 run ≡ 0
    → slot_ordered (slots_by octet contents) run ≡ items_in_order contents run
unfolding slot_ordered items_in_order
ordered_same octet profile run z = refl
ordered_same octet (described needed types) run z = rw (no-order (asked needed 0x02) run z) (or_same _)
ordered_same octet (unit needed false) run z =
    rw (no-order (optional 0x31) run z)
    (or_turned (in_order (optional 0x31) (asked needed 0x04) run) (in_order (optional 0x31) (asked needed 0x24) run))
ordered_same octet (unit needed true) run z =
    or-last (in_order (optional 0x31) (asked needed 0x04) run) (in_order (optional 0x31) (asked needed 0x24) run)
    (in_order (optional 0x31) (asked needed 0x30) run)
ordered_same octet style run z = refl
ordered_same octet (protected true) run z =
    rw (no-order (required 0x47) run z) (or_turned (in_order (required 0x47) (required 0x04) run) (in_order (required 0x47) (required 0x24) run))
ordered_same octet (protected false) run z =
    rw (no-order (required 0x47) run z) (or_turned (in_order (required 0x47) (required 0x03) run) (in_order (required 0x47) (required 0x23) run))

-- the last of three tests before the others
last-first : (a b c : Bool) → a && (b && (c && true)) ≡ c && (a && (b && true))
last-first true true c = refl
last-first true false true = refl
last-first true false false = refl
last-first false b true = refl
last-first false b false = refl

-- 12
tabled-same : (octet : ℕ) (contents : Contents) (run : Tree) → amount 0 run ≡ 0 → amount 0 (body_of contents run) ≡ 0
    → slot_tabled (slots_by octet contents) run ≡ as_tabled contents run
unfolding slot_tabled as_tabled body_of slot_body amount first_run all_portions only_pieces
tabled-same octet profile run z y = rw (ordered_same octet profile run z, content-same octet profile run z, no_run 0 run z)
tabled-same octet (described needed types) run z y =
    let contents = described needed types in
    let body = first_run 0x31 run in
    rw (
      ordered_same octet contents run z,
      content-same octet contents run z,
      no_run 0 run z,
      y,
      last-first (none_of 0x61 body) (none_of 0x81 body) (all_portions (first_run 0xA1 body)),
    )
tabled-same octet (unit needed tiled) run z y =
    rw (
      ordered_same octet (unit needed tiled) run z,
      content-same octet (unit needed tiled) run z,
      no_run 0 run z,
      y,
      no_run 0 (first_run 0x31 run) y,
    )
tabled-same octet style run z y = rw (ordered_same octet style run z, content-same octet style run z, y, no_run 0 run y)
tabled-same octet (protected true) run z y =
    rw (ordered_same octet (protected true) run z, content-same octet (protected true) run z, no_run 0 run z)
tabled-same octet (protected false) run z y = rw (ordered_same octet (protected false) run z, content-same octet (protected false) run z)

-- what the element says
element-same : (octet : ℕ) (contents : Contents) (run : Tree) → amount 0 run ≡ 0 → amount 0 (body_of contents run) ≡ 0
    → slot_element (slots_by octet contents) run ≡ element_of (record { octet = octet; contents = contents }) run
unfolding slot_element element_of body_of slot_body first_value first_run values
element-same octet profile run z y = rw (content-same octet profile run z, no_value 0 run z)
element-same octet (described needed types) run z y =
    rw (content-same octet (described needed types) run z, no_value 0 (first_run 0x31 run) y)
element-same octet (unit needed tiled) run z y =
    rw (content-same octet (unit needed tiled) run z, no_value 0 run z, no_run 0 (first_run 0x31 run) y)
element-same octet style run z y = rw (content-same octet style run z, no_value 0 run y, no_run 0 run y)
element-same octet (protected true) run z y = rw (content-same octet (protected true) run z, no_value 0 run z)
element-same octet (protected false) run z y = rw (content-same octet (protected false) run z, no_value 0 run z)

-- 13
object-same : (octet : ℕ) (contents : Contents) (run : Tree) → amount 0 run ≡ 0
    → type_fits (slots_by octet contents).types (first_value (slots_by octet contents).object run)
    ≡ type_fits (types_of contents) (value_at (type_octet contents) run)
object-same octet profile run z = rw (no_value 0 run z)
object-same octet (described needed types) run z = refl
object-same octet (unit needed tiled) run z = rw (no_value 0 run z)
object-same octet style run z = rw (no_value 0 run z)
object-same octet (protected true) run z = rw (no_value 0 run z)
object-same octet (protected false) run z = rw (no_value 0 run z)

-- the octet of the item that holds the content, by slots and by shape; one that is not there is none
data Sought (run : Tree) : ℕ → Option ℕ → Type 0 where
  found : (octet : ℕ) → Sought run octet (some octet)
  lacking : (octet : ℕ) → amount octet run ≡ 0 → Sought run octet none

one-sought : (octet : ℕ) (run : Tree) → Sought run octet (cond (none_of octet run) none (some octet))
one-sought octet run = cases (none_of octet run) (λ e. rw e (lacking octet (eqb-true (amount octet run) 0 e))) (λ e. rw e (found octet))

holder-sought : (octet : ℕ) (contents : Contents) (run : Tree) → amount 0 run ≡ 0
    → Sought run (slot_octet (slots_by octet contents) run) (content_octet contents run)
unfolding slot_octet content_octet
holder-sought octet profile run z = rw z (lacking 0 z)
holder-sought octet (described needed types) run z = rw z (lacking 0 z)
holder-sought octet (unit needed false) run z = cases (none_of 0x24 run) (λ e. rw (e, z) (one-sought 0x04 run)) (λ e. rw e (found 0x24))
holder-sought octet (unit needed true) run z =
    cases (none_of 0x24 run)
    (λ e. cases (none_of 0x30 run) (λ d. rw (e, d) (one-sought 0x04 run)) (λ d. rw (e, d) (found 0x30)))
    (λ e. rw e (found 0x24))
holder-sought octet style run z = rw z (lacking 0 z)
holder-sought octet (protected true) run z = cases (none_of 0x24 run) (λ e. rw (e, z) (one-sought 0x04 run)) (λ e. rw e (found 0x24))
holder-sought octet (protected false) run z = rw z (lacking 0 z)

-- the fields of the content, and the items inside what holds it
bounds-sought : (s : List ℕ) (items : Items) {octet : ℕ} {holder : Option ℕ} → Sought (plain s items) octet holder
    → bounds_of octet items ≡ bounds_at holder items
bounds-sought s items (found octet) = refl
bounds-sought s items (lacking octet z) = none-bounds s octet items z

items-sought : (s : List ℕ) (items : Items) {octet : ℕ} {holder : Option ℕ} → Sought (plain s items) octet holder
    → items_in octet items ≡ items_at holder items
items-sought s items (found octet) = refl
items-sought s items (lacking octet z) = none-items s octet items z

fields-same : (octet : ℕ) (contents : Contents) (s : List ℕ) (items : Items) → amount 0 (plain s items) ≡ 0
    → bounds_of (slot_octet (slots_by octet contents) (plain s items)) items ≡ bounds_at (content_octet contents (plain s items)) items
fields-same octet contents s items z = bounds-sought s items (holder-sought octet contents (plain s items) z)

-- its row
row_same : (octet : ℕ) (contents : Contents) (s : List ℕ) (first past : ℕ) (items : Items) → amount 0 (plain s items) ≡ 0
    → amount 0 (body_of contents (plain s items)) ≡ 0 → amount 0 (plain s (body_in contents items)) ≡ 0
    → slot_row (slots_by octet contents) s first past items ≡ row_of (record { octet = octet; contents = contents }) s first past items
unfolding slot_row row_of slot_items body_in bounds_of
row_same octet profile s first past items z y x =
    rw (element-same octet profile (plain s items) z y, fields-same octet profile s items z)
row_same octet (described needed types) s first past items z y x =
    let contents = described needed types in
    rw (
      element-same octet contents (plain s items) z y,
      fields-same octet contents s items z,
      none-bounds s 0 (items_in 0x31 items) x,
    )
row_same octet (unit needed tiled) s first past items z y x =
    let contents = unit needed tiled in
    rw (
      element-same octet contents (plain s items) z y,
      fields-same octet contents s items z,
      none-bounds s 0 (items_in 0x31 items) x,
    )
row_same octet style s first past items z y x =
    rw (element-same octet style (plain s items) z y, fields-same octet style s items z, none-bounds s 0 items x)
row_same octet (protected true) s first past items z y x =
    rw (element-same octet (protected true) (plain s items) z y, fields-same octet (protected true) s items z)
row_same octet (protected false) s first past items z y x =
    rw (element-same octet (protected false) (plain s items) z y, fields-same octet (protected false) s items z)

module _ {s : List ℕ} {r : Run} (fine : Fine s r) where
  body-zero : (contents : Contents) → amount 0 (body_of contents (tree_in s r)) ≡ 0
  unfolding body_of amount
  body-zero profile = refl
  body-zero (described needed types) = no-zero-inside fine 0x31
  body-zero (unit needed tiled) = no-zero-inside fine 0x31
  body-zero style = no_zero fine
  body-zero (protected enciphered) = refl

  items-zero : (contents : Contents) → amount 0 (plain s (body_in contents (items_of s r))) ≡ 0
  unfolding body_in amount
  items-zero profile = refl
  items-zero (described needed types) = no-zero-items fine 0x31
  items-zero (unit needed tiled) = no-zero-items fine 0x31
  items-zero style = no_zero fine
  items-zero (protected enciphered) = refl

  module _ (shape : Shape) where
    abbrev its_octet : ℕ
    its_octet = shape.octet

    abbrev its_contents : Contents
    its_contents = shape.contents

    says_same : slot_element (slots_of shape) (tree_in s r) ≡ element_of shape (tree_in s r)
    says_same = element-same its_octet its_contents (tree_in s r) (no_zero fine) (body-zero its_contents)

    refusal-same : slot_refusal (slots_of shape) (tree_in s r) ≡ shape_refusal shape (tree_in s r)
    unfolding slot_refusal shape_refusal
    refusal-same =
        rw (
          tabled-same its_octet its_contents (tree_in s r) (no_zero fine) (body-zero its_contents),
          object-same its_octet its_contents (tree_in s r) (no_zero fine),
          says_same,
        )

    -- what is seen of an element by its slots is what it is by its shape
    pub sees-shape : (first past : ℕ) (bounds : List ℕ) (seen : Result Seen ℕ) → SeesSlots s (slots_of shape) r first past bounds seen
        → SeesShape s shape r first past bounds seen
    sees-shape first past bounds seen h =
        let same_row = row_same its_octet its_contents s first past (items_of s r) (no_zero fine) (body-zero its_contents) (items-zero its_contents) in
        subst (λ (n : ℕ). Sees s n (row_of shape s first past (items_of s r)) (element_of shape (tree_in s r)) bounds seen) refusal-same
        (subst (λ (row : Row). Sees s (slot_refusal (slots_of shape) (tree_in s r)) row (element_of shape (tree_in s r)) bounds seen) same_row
        (subst (λ (e : Element). Sees s (slot_refusal (slots_of shape) (tree_in s r)) (slot_row (slots_of shape) s first past (items_of s r)) e bounds seen)
        says_same h))

    pub holding-shape : {holder : Holder} → HoldingSlots s (slots_of shape) r holder → HoldingShape s shape r holder
    holding-shape {holder} h =
        let items = items_of s r in
        let run = tree_in s r in
        let sought = holder-sought its_octet its_contents run (no_zero fine) in
        let inside = items_in (slot_octet (slots_of shape) run) items in
        subst (λ (i : Items). Holding s (bounds_at (content_octet its_contents run) items) i (content_of its_contents run) holder)
        (items-sought s items sought)
        (subst (λ (v : Span). Holding s v inside (content_of its_contents run) holder) (bounds-sought s items sought)
        (subst (λ (c : Content). Holding s (bounds_of (slot_octet (slots_of shape) run) items) inside c holder)
        (content-same its_octet its_contents run (no_zero fine)) h))
