-- A row tells what its element says: both are of one item, and the bounds of an item's value are those of its octets. And the items of a
-- stream are as many as its tree has.
use mathlib.Core.Path.{◌≡◌, refl, ap, sym, ◌∙◌, subst}
use mathlib.Core.Logic.{◌↔◌}
use mathlib.Core.Bool.{Bool, true, false, not, ◌&&◌, true≢false, false≢true}
use mathlib.Core.List.{List, [], ◌∷◌, ◌++◌, map}
use mathlib.Core.Option.{some}
use Prim.Native.Nat.{ℕ, zero, suc, ◌+◌, ◌-◌, ◌<◌, ◌≤◌}
use native.Mathlib.Omega.{arith}
use lib.Dec.{eqb, leb}
use lib.ListN.{length, get_elem?, length-map}
use lib.Seq.{slice, slice_empty}
use borrow.Author.Tests.{eqb-true, eqb-false}
use borrow.Table.Steps.{cases}
use Rattle.headers.specs.Head.{constructed, misfits, code_of, type_field}
use Rattle.octets.specs.Walk.{Items, no_items, item, count, End, ends, past_of, deepest, start_of}
use Rattle.octets.specs.Rules.{Runs, at_limit, unclosed, closes, refuses, primitive, passes, breaks}
use Rattle.octets.proofs.Turns.{header_ok}
use Rattle.tree.specs.Tree.{Tree, empty, leaf, branch, formed, plain, TypeField, one_octet, two_octets, three_octets, Codes, nothing, primitive as flat}
use Rattle.tree.specs.Tree.{definite, indefinite}
use Rattle.tree.specs.Accepts.{Whole}
use Rattle.tree.proofs.Here.{sliced}
use Rattle.tree.proofs.Sound.{Past, sound}
use Rattle.runs.proofs.Heads.{item-octet}
use Rattle.contents.specs.declared.Span.{Span}
use Rattle.contents.specs.Search.{is, amount, first_value, first_run, bounds_of, items_in as inside_of, no_span}
use Rattle.contents.proofs.Firsts.{is_field, amount-formed}
use Rattle.portions.specs.Portions.{all_portions, values, all}
use Rattle.elements.specs.ElementRows.{bytes_in, body_in, holder_in, content_octet, bounds_at, row_of, rows_of}
use Rattle.elements.specs.declared.Row.{Row}
use Rattle.elements.specs.declared.Edition.{Edition}
use Rattle.elements.specs.Shape.{ContentItem, whole, pieced, Contents, profile, described, unit, style, protected, Shape, shape_of}
use Rattle.elements.specs.Judge.{body_of, identifier_octet, identifier_needed, logical_octet, portions_octet, barred, holders_of, value_at, run_at, amount_at, none_of}
use Rattle.elements.specs.Judge.{content_in, content_of, pieces_alone, seal_octet, seal_alone, Element, element_of, items_in_order, as_tabled, accepted, judge}
use Rattle.elements.specs.WellMade.{Formed}
use Rattle.elements.proofs.Made.{formed as holders-formed}
use Rattle.letters.proofs.Nested.{past-between, stays}
use Rattle.promises.specs.Refusals.{TopItem, top_items, contents_in, says_in}
use Rattle.promises.specs.Demands.{item_count, TellsValue, TellsContent, portion_items, CodesAlone, RowTells}
use Rattle.promises.proofs.Alone.{Alone}
use Rattle.promises.proofs.Refusals.{accepted-elements, accepted-tabled}

-- the count of the items is that of the tree
pub count-tree : {s : List ℕ} {room at limit : ℕ} {marked : Bool} {i : Items} {e : End} → Runs s room at limit marked i e → count i ≡ item_count (plain s i)
count-tree (at_limit p) = refl
count-tree (unclosed p) = refl
count-tree (closes l h) = refl
count-tree (refuses l h) = refl
count-tree (primitive l h c r) = rw c (let e = count-tree r in omega arith)
count-tree (passes l h c v r) = rw c (let e = count-tree v in let f = count-tree r in omega arith)
count-tree (breaks l h c v) = rw c (let e = count-tree v in omega arith)

past-at : (s : List ℕ) (limit to next : ℕ) (marked : Bool) → Past s limit to next marked → past_of marked next ≡ to
past-at s limit to next true p = omega (arith, p.0)
past-at s limit to next false p = p.1 ∙ sym p.0

-- the value of an item codes the run inside it
value-codes : {s : List ℕ} {room at limit : ℕ} {marked : Bool} {items : Items} {next : ℕ} → Runs s room at limit marked items (ends next)
    → limit ≤ length s → Codes room (plain s items) (slice at (past_of marked next) s)
value-codes {s} {room} {at} {limit} {marked} {items} {next} runs f =
    let (xs, codes, stands, past) = sound runs f in
    let same = sliced s at xs (past_of marked next) (past-at s limit (at + length xs) next marked past) stands in
    subst (Codes room (plain s items)) (sym same) codes

-- Items whose walk ended: a value ends past 0, no octet is 0, a primitive item has nothing inside, and the value of a constructed item codes
-- what is inside.
pub data Proper (s : List ℕ) : (room : ℕ) → Items → Type 0 where
  no_more : {room : ℕ} → Proper s room no_items
  more : {room at code start past : ℕ} {inside after : Items} → 0 < past → (code ≡ 0 → ⊥) → (constructed code ≡ false → inside ≡ no_items)
      → (constructed code ≡ true → Codes (room - 1) (plain s inside) (slice start past s))
      → Proper s (room - 1) inside → Proper s room after → Proper s room (item at code start past inside after)

pub proper : {s : List ℕ} {room at limit : ℕ} {marked : Bool} {i : Items} {e : End} → Runs s room at limit marked i e → Whole e → limit ≤ length s
    → Proper s room i
proper (at_limit p) w f = no_more
proper (unclosed p) w f = absurd w
proper (closes l h) w f = no_more
proper (refuses l h) w f = absurd w
proper {s} (primitive {room} {at} {limit} {marked} {h} {after} l p q r) w f =
    let head = header_ok s at limit room marked h p in
    let o = item-octet s at limit marked room h p in
    let past = past-between h.marked h.start h.bound head.order (λ m. absurd (false≢true (sym q ∙ head.mark m))) in
    let there : 0 < past_of h.marked h.bound = omega (arith, head.header, past.0) in
    more there o.0 (λ _. refl) (λ c. absurd (false≢true (sym q ∙ c))) no_more (proper r w f)
proper {s} (passes {room} {at} {limit} {marked} {h} {inside} {after} {next} l p q v r) w f =
    let head = header_ok s at limit room marked h p in
    let o = item-octet s at limit marked room h p in
    let within = stays v next refl in
    let past = past-between h.marked h.start next within.order within.mark in
    let there : 0 < past_of h.marked next = omega (arith, head.header, past.0) in
    more there o.0 (λ c. absurd (true≢false (sym q ∙ c)))
    (λ _. value-codes v (omega (arith, head.within))) (proper v tt (omega (arith, head.within))) (proper r w f)
proper (breaks l p q v) w f = absurd w

module _ (s : List ℕ) where
  -- the bounds of the first primitive item with an octet tell its value
  value-at : (octet : ℕ) → constructed octet ≡ false → {room : ℕ} {i : Items} → Proper s room i → TellsValue s (bounds_of octet i) (first_value octet (plain s i))
  unfolding bounds_of first_value
  value-at octet c no_more = refl
  value-at octet c (more {code = type} there n f codes p q) =
      cases (eqb type octet)
      (λ t.
      let same = eqb-true type octet t in
      let k : constructed type ≡ false = ap constructed same ∙ c in
      rw (t, k, is_field octet type, t) (refl, there))
      (λ t.
      cases (constructed type)
      (λ k. rw (t, k) (value-at octet c q))
      (λ k. rw (t, k, is_field octet type, t) (value-at octet c q)))

  -- the bounds of an item that is there end past 0, and those of one that is not are 0 and 0
  there-at : (octet : ℕ) {room : ℕ} {i : Items} → Proper s room i → (bounds_of octet i ≡ no_span) ↔ (amount octet (plain s i) ≡ 0)
  unfolding bounds_of amount
  there-at octet no_more = (λ _. refl, λ _. refl)
  there-at octet (more {code = type} {start} {past} {inside} {after} there n f codes p q) =
      let counted = amount-formed octet type (slice start past s) (plain s inside) (plain s after) (constructed type) in
      cases (eqb type octet)
      (λ t.
      let one : amount octet (plain s (item 0 type start past inside after)) ≡ 1 + amount octet (plain s after) = counted ∙ rw t in
      rw t (λ e. let z = ap (λ (v : Span). v.past) e in absurd (omega arith), λ z. absurd (omega arith)))
      (λ t.
      let fewer : amount octet (plain s (item 0 type start past inside after)) ≡ amount octet (plain s after) = counted ∙ rw t (omega arith) in
      let (to, from) = there-at octet q in
      rw t (λ e. fewer ∙ to e, λ z. from (sym fewer ∙ z)))

  -- the items inside the first constructed item with an octet are its run
  run-at : (octet : ℕ) → constructed octet ≡ true → (i : Items) → plain s (inside_of octet i) ≡ first_run octet (plain s i)
  unfolding inside_of first_run
  run-at octet c no_items = refl
  run-at octet c (item at type start past inside after) =
      cases (eqb type octet)
      (λ t.
      let same = eqb-true type octet t in
      let p : constructed type ≡ true = ap constructed same ∙ c in
      rw (t, p, is_field octet type, t))
      (λ t.
      cases (constructed type)
      (λ p. rw (t, p, is_field octet type, t) (run-at octet c after))
      (λ p. rw (t, p) (run-at octet c after)))

  inside_proper : (octet : ℕ) {room : ℕ} {i : Items} → Proper s room i → Proper s (room - 1) (inside_of octet i)
  unfolding inside_of
  inside_proper octet no_more = no_more
  inside_proper octet (more {code = type} there n f codes p q) =
      cases (eqb type octet) (λ t. rw t p) (λ t. rw t (inside_proper octet q))

  -- and the bounds of its value code the run
  codes_at : (octet : ℕ) → constructed octet ≡ true → {room : ℕ} {i : Items} → Proper s room i → (amount octet (plain s i) ≡ 0 → ⊥)
      → Codes (room - 1) (first_run octet (plain s i)) (bytes_in s (bounds_of octet i)) × (0 < (bounds_of octet i).past)
  unfolding bounds_of first_run amount
  codes_at octet c no_more present = absurd (present refl)
  codes_at octet c (more {code = type} {start} {past} {inside} {after} there n f codes p q) present =
      cases (eqb type octet)
      (λ t.
      let same = eqb-true type octet t in
      let k : constructed type ≡ true = ap constructed same ∙ c in
      rw (t, k, is_field octet type, t) (codes k, there))
      (λ t.
      let counted = amount-formed octet type (slice start past s) (plain s inside) (plain s after) (constructed type) in
      let fewer : amount octet (plain s (item 0 type start past inside after)) ≡ amount octet (plain s after) = counted ∙ rw t (omega arith) in
      let rest = codes_at octet c q (λ z. present (fewer ∙ z)) in
      cases (constructed type) (λ k. rw (t, k, is_field octet type, t) rest) (λ k. rw (t, k) rest))

  -- the items that name an element are the run that does
  body_at : (contents : Contents) (i : Items) → plain s (body_in contents i) ≡ body_of contents (plain s i)
  unfolding body_in body_of
  body_at profile i = refl
  body_at (described needed types) i = run-at 0x31 refl i
  body_at (unit needed tiled) i = run-at 0x31 refl i
  body_at style i = refl
  body_at (protected enciphered) i = refl

  body-proper : (contents : Contents) {room : ℕ} {i : Items} → Proper s room i → (levels : ℕ) × Proper s levels (body_in contents i)
  unfolding body_in
  body-proper profile p = (0, no_more)
  body-proper (described needed types) {room} p = (room - 1, inside_proper 0x31 p)
  body-proper (unit needed tiled) {room} p = (room - 1, inside_proper 0x31 p)
  body-proper style {room} p = (room, p)
  body-proper (protected enciphered) p = (0, no_more)

  -- identifiers are values
  identifier-at : (contents : Contents) {room : ℕ} {i : Items} → Proper s room i
      → TellsValue s (bounds_at (identifier_octet contents) i) (value_at (identifier_octet contents) (plain s i))
  identifier-at profile p = refl
  identifier-at (described needed types) p = value-at 0x41 refl p
  identifier-at (unit needed tiled) p = value-at 0x40 refl p
  identifier-at style p = value-at 0x45 refl p
  identifier-at (protected enciphered) p = refl

  logical-at : (contents : Contents) {room : ℕ} {i : Items} → Proper s room i
      → TellsValue s (bounds_at (logical_octet contents) i) (value_at (logical_octet contents) (plain s i))
  logical-at profile p = refl
  logical-at (described needed types) p = refl
  logical-at (unit needed tiled) p = value-at 0x84 refl p
  logical-at style p = refl
  logical-at (protected enciphered) p = refl

  no-portions-at : (contents : Contents) {room : ℕ} {i : Items} → Proper s room i
      → (bounds_at (portions_octet contents) i ≡ no_span) ↔ (amount_at (portions_octet contents) (plain s i) ≡ 0)
  no-portions-at profile p = (λ _. refl, λ _. refl)
  no-portions-at (described needed types) p = there-at 0xA1 p
  no-portions-at (unit needed tiled) p = (λ _. refl, λ _. refl)
  no-portions-at style p = (λ _. refl, λ _. refl)
  no-portions-at (protected enciphered) p = (λ _. refl, λ _. refl)

-- a type field with the code of one octet is that octet
is-octet : (octet : ℕ) → octet < 256 → {type : List ℕ} {form : Bool} → TypeField type form → is octet type ≡ true → type ≡ octet ∷ []
is-octet octet low (one_octet n a c) e = let same = eqb-true _ octet e in ap (λ (k : ℕ). k ∷ []) (omega arith)
is-octet octet low (two_octets n c l h) e = let same = eqb-true _ octet e in absurd (omega arith)
is-octet octet low (three_octets n c l h t) e = let same = eqb-true _ octet e in absurd (omega arith)

pub both : (a b : Bool) → a && b ≡ true → (a ≡ true) × (b ≡ true)
both true b e = (refl, e)
both false b e = absurd (false≢true e)

-- Items 12 alone are those of the list of their values, and take one level.
one-level : {room : ℕ} {t : Tree} {xs : List ℕ} → Codes room t xs → all_portions t ≡ true → Codes 1 (portion_items (values t)) xs
unfolding all_portions values
one-level nothing e = nothing
one-level (flat {type = type} {len} {value} {rest} {after} f m l c) e =
    let (a, b) = both (is 0x12 type) (all_portions after) e in
    let k = is-octet 0x12 (omega arith) f a in
    subst (λ (field : List ℕ). Codes 1 (portion_items (value ∷ values after)) (field ++ (len ++ (value ++ rest)))) (sym k)
    (flat (subst (λ (field : List ℕ). TypeField field false) k f)
    (subst (λ (field : List ℕ). misfits (code_of field) (length value) ≡ false) k m) l (one-level c b))
one-level (definite f l v c) e = absurd (false≢true e)
one-level (indefinite f v c) e = absurd (false≢true e)

no_run : (octet : ℕ) (t : Tree) → amount octet t ≡ 0 → first_run octet t ≡ empty
unfolding amount first_run
no_run octet empty z = refl
no_run octet (leaf type value after) z = no_run octet after (omega arith)
no_run octet (branch type inside after) z =
    cases (is octet type)
    (λ t. let k : 1 + amount octet after ≡ 0 = rw t at z in absurd (omega arith))
    (λ t. rw t (no_run octet after (omega arith)))

module _ (s : List ℕ) where
  -- the octets of the portions
  listed_at : (octet : ℕ) → constructed octet ≡ true → {room : ℕ} {i : Items} → Proper s room i
      → all_portions (first_run octet (plain s i)) ≡ true → Codes 1 (portion_items (values (first_run octet (plain s i)))) (bytes_in s (bounds_of octet i))
  unfolding values
  listed_at octet c {room} {i} p only =
      cases (eqb (amount octet (plain s i)) 0)
      (λ t.
      let z = eqb-true _ 0 t in
      let bounds : bounds_of octet i ≡ no_span = (there-at s octet p).1 z in
      let run : first_run octet (plain s i) ≡ empty = no_run octet (plain s i) z in
      rw (run, bounds, slice_empty 0 s) nothing)
      (λ t. one-level (codes_at s octet c p (eqb-false _ 0 t)).0 only)

  no-list : Codes 1 (portion_items (values empty)) (bytes_in s no_span)
  unfolding values
  no-list = rw (slice_empty 0 s) nothing

  portions-at : (contents : Contents) {room : ℕ} {i : Items} → Proper s room i → all_portions (run_at (portions_octet contents) (plain s i)) ≡ true
      → Codes 1 (portion_items (values (run_at (portions_octet contents) (plain s i)))) (bytes_in s (bounds_at (portions_octet contents) i))
  portions-at profile p only = no-list
  portions-at (described needed types) p only = listed_at 0xA1 refl p only
  portions-at (unit needed tiled) p only = no-list
  portions-at style p only = no-list
  portions-at (protected enciphered) p only = no-list

  -- the octets of the content
  content-at : (holders : List ContentItem) → Formed holders → {i : Items} → Proper s (deepest - 1) i
      → TellsContent s (bounds_at (holder_in holders (plain s i)) i) (content_in holders (plain s i))
  content-at [] w p = refl
  content-at (whole octet ∷ others) w {i} p =
      cases (none_of octet (plain s i)) (λ t. rw t (content-at others w.1 p)) (λ t. rw t (value-at s octet w.0 p))
  content-at (pieced octet ∷ others) w {i} p =
      cases (none_of octet (plain s i)) (λ t. rw t (content-at others w.1 p)) (λ t. rw t (codes_at s octet w.0 p (eqb-false _ 0 t)))

module _ (edition : Edition) (s : List ℕ) where
  abbrev shape_at : ℕ → Shape
  shape_at code = shape_of edition (type_field code)

  abbrev item_at : (octet : ℕ) → Items → TopItem
  item_at octet inside = record { type = type_field octet; run = plain s inside }

  row-tells : (octet first past : ℕ) (inside : Items) → Proper s (deepest - 1) inside → CodesAlone (item_at octet inside) (slice first past s)
      → all_portions (run_at (portions_octet (shape_at octet).contents) (body_of (shape_at octet).contents (plain s inside))) ≡ true
      → RowTells edition s (row_of (shape_at octet) s first past inside) (item_at octet inside) (says_in edition (item_at octet inside))
  unfolding row_of element_of content_of content_octet
  row-tells octet first past inside p alone only =
      let contents = (shape_at octet).contents in
      let body = body_in contents inside in
      let same : plain s body ≡ body_of contents (plain s inside) = body_at s contents inside in
      let q = (body-proper s contents p).1 in
      record {
        kind = refl;
        object = refl;
        whole = alone;
        identifier = subst (λ (t : Tree). TellsValue s (bounds_at (identifier_octet contents) body) (value_at (identifier_octet contents) t)) same
            (identifier-at s contents q);
        logical = subst (λ (t : Tree). TellsValue s (bounds_at (logical_octet contents) body) (value_at (logical_octet contents) t)) same
            (logical-at s contents q);
        portions = subst
            (λ (t : Tree). Codes 1 (portion_items (values (run_at (portions_octet contents) t))) (bytes_in s (bounds_at (portions_octet contents) body))) same
            (portions-at s contents q (subst (λ (t : Tree). all_portions (run_at (portions_octet contents) t) ≡ true) (sym same) only));
        no_portions = subst (λ (t : Tree). (bounds_at (portions_octet contents) body ≡ no_span) ↔ (amount_at (portions_octet contents) t ≡ 0)) same
            (no-portions-at s contents q);
        content = content-at s (holders_of contents) (holders-formed contents) p;
      }

  -- an element stands in the tree as the items inside its own
  same-top : (octet : ℕ) (value : List ℕ) (inside : Items) (after : Tree) → (constructed octet ≡ false → inside ≡ no_items)
      → top_items (formed (constructed octet) (type_field octet) value (plain s inside) after) ≡ item_at octet inside ∷ top_items after
  same-top octet value inside after n =
      cases (constructed octet)
      (λ c. rw c)
      (λ c. let e : inside ≡ no_items = n c in rw (c, e))

  -- a row and an element of the tree are of one item
  record OfOne (row : Row) (top : TopItem) : Type 0 where
    code : ℕ
    first : ℕ
    past : ℕ
    inside : Items
    inside_proper : Proper s (deepest - 1) inside
    whole : CodesAlone (item_at code inside) (slice first past s)
    row_is : row_of (shape_at code) s first past inside ≡ row
    item_is : item_at code inside ≡ top

  of_one : {i : Items} → Proper s deepest i → Alone s (length s) i → (j : ℕ) (row : Row) (top : TopItem) → get_elem? (rows_of edition s i) j ≡ some row
      → get_elem? (top_items (plain s i)) j ≡ some top → OfOne row top
  unfolding rows_of
  of_one no_more a j row top e f = let z : ◌≡◌ {A = ℕ} 0 1 = cc in absurd (omega arith)
  of_one (more {at = at} {code = octet} {start} {past} {inside} {after} there n nothing-in codes p q) a zero row top e f =
      let tops = same-top octet (slice start past s) inside (plain s after) nothing-in in
      let g : some (item_at octet inside) ≡ some top = sym (ap (λ (ts : List TopItem). get_elem? ts 0) tops) ∙ f in
      let item_is : item_at octet inside ≡ top = cc in
      let row_is : row_of (shape_at octet) s at (start_of (length s) after) inside ≡ row = cc in
      let whole : CodesAlone (item_at octet inside) (slice at (start_of (length s) after) s) =
      (plain s (item at octet start past inside no_items), a.0, same-top octet (slice start past s) inside empty nothing-in) in
      record {
        code = octet;
        first = at;
        past = start_of (length s) after;
        inside = inside;
        inside_proper = p;
        whole = whole;
        row_is = row_is;
        item_is = item_is;
      }
  of_one (more {code = octet} {start} {past} {inside} {after} there n nothing-in codes p q) a (suc j) row top e f =
      let tops = same-top octet (slice start past s) inside (plain s after) nothing-in in
      of_one q a.1 j row top e (sym (ap (λ (ts : List TopItem). get_elem? ts (suc j)) tops) ∙ f)

  -- as many rows as elements
  rows-count : {i : Items} → Proper s deepest i → length (rows_of edition s i) ≡ length (top_items (plain s i))
  unfolding rows_of
  rows-count no_more = refl
  rows-count (more {code = octet} {start} {past} {inside} {after} there n nothing-in codes p q) =
      ap suc (rows-count q) ∙ sym (ap length (same-top octet (slice start past s) inside (plain s after) nothing-in))

said_at : (edition : Edition) (tops : List TopItem) (j : ℕ) (top : TopItem) → get_elem? tops j ≡ some top
    → get_elem? (map (says_in edition) tops) j ≡ some (says_in edition top)
said_at edition [] j top e = let z : ◌≡◌ {A = ℕ} 0 1 = cc in absurd (omega arith)
said_at edition (x ∷ tops) zero top e = let p : x ≡ top = cc in ap (λ (y : TopItem). some (says_in edition y)) p
said_at edition (x ∷ tops) (suc j) top e = said_at edition tops j top e

-- of a list of tests that all hold, each does
all-at : (tests : List Bool) → all tests ≡ true → (k : ℕ) (test : Bool) → get_elem? tests k ≡ some test → test ≡ true
all-at [] e k test f = let z : ◌≡◌ {A = ℕ} 0 1 = cc in absurd (omega arith)
all-at (t ∷ tests) e zero test f = let p : t ≡ test = cc in sym p ∙ (both t (all tests) e).0
all-at (t ∷ tests) e (suc k) test f = all-at tests (both t (all tests) e).1 k test f

-- contents as tabled: the portions are items 12
tabled-portions : (contents : Contents) (run : Tree) → as_tabled contents run ≡ true
    → all_portions (run_at (portions_octet contents) (body_of contents run)) ≡ true
unfolding as_tabled
tabled-portions contents run e =
    let body = body_of contents run in
    let identifiers = amount_at (identifier_octet contents) body in
    all-at (items_in_order contents run
    ∷ pieces_alone (content_of contents run)
    ∷ seal_alone (seal_octet contents) run
    ∷ not (identifier_needed contents && eqb identifiers 0)
    ∷ leb identifiers 1
    ∷ leb (amount_at (logical_octet contents) body) 1
    ∷ leb (amount_at (portions_octet contents) body) 1
    ∷ all_portions (run_at (portions_octet contents) body)
    ∷ map (λ octet. none_of octet body) (barred contents)) e 7 (all_portions (run_at (portions_octet contents) body)) refl

module _ (edition : Edition) (s : List ℕ) {i : Items} (p : Proper s deepest i) (elements : List Element)
    (judged : judge edition (plain s i) ≡ accepted elements) where
  pub tops_counted : length (top_items (plain s i)) ≡ length elements
  tops_counted = sym (length-map (top_items (plain s i)) (says_in edition)) ∙ ap length (sym (accepted-elements edition (plain s i) elements judged))

  pub rows_counted : length (rows_of edition s i) ≡ length elements
  rows_counted = rows-count edition s p ∙ tops_counted

  pub rows_tell : Alone s (length s) i → (j : ℕ) (row : Row) (top : TopItem) (element : Element) → get_elem? (rows_of edition s i) j ≡ some row
      → get_elem? (top_items (plain s i)) j ≡ some top → get_elem? elements j ≡ some element → RowTells edition s row top element
  rows_tell a j row top element e there f =
      let o = of_one edition s p a j row top e there in
      let g : some (says_in edition top) ≡ some element =
      sym (said_at edition (top_items (plain s i)) j top there)
      ∙ ap (λ (es : List Element). get_elem? es j) (sym (accepted-elements edition (plain s i) elements judged)) ∙ f in
      let x : says_in edition top ≡ element = cc in
      let tabled = subst (λ (y : TopItem). as_tabled (contents_in edition y) y.run ≡ true) (sym o.item_is)
      (accepted-tabled edition (plain s i) elements judged j top there) in
      let told = row-tells edition s o.code o.first o.past o.inside o.inside_proper o.whole (tabled-portions _ _ tabled) in
      let at_item = subst (λ (y : TopItem). RowTells edition s (row_of (shape_at edition s o.code) s o.first o.past o.inside) y
      (says_in edition y)) o.item_is told in
      subst (λ (r : Row). RowTells edition s r top element) o.row_is
      (subst (RowTells edition s (row_of (shape_at edition s o.code) s o.first o.past o.inside) top) x at_item)
