-- What stands at the places of an element of a letter is its content, joined; and they ascend in the content fields of its row. By its holder: a primitive
-- one is found in the tree and among the items alike, and so is a constructed one.
use mathlib.Core.Path.{◌≡◌, refl, ap, sym, ◌∙◌, subst}
use mathlib.Core.Bool.{Bool, true, false, cond}
use mathlib.Core.List.{List, [], ◌∷◌, ◌++◌, append_assoc, append-nil}
use mathlib.Core.Option.{Option, none, some}
use Prim.Native.Nat.{ℕ, zero, suc, ◌≤◌}
use native.Mathlib.Omega.{arith}
use borrow.Author.Tests.{eqb-true}
use borrow.Table.Steps.{cases}
use lib.Dec.{eqb}
use lib.ListN.{length, get_elem?, get_or}
use Rattle.headers.specs.Head.{constructed, type_field}
use Rattle.octets.specs.Walk.{Items, no_items, item, End, ends, past_of, start_of}
use Rattle.octets.specs.Rules.{Runs, at_limit, unclosed, closes, refuses, primitive, passes, breaks}
use Rattle.octets.proofs.Turns.{header_ok}
use Rattle.tree.specs.Tree.{plain, tree_of}
use Rattle.runs.proofs.Again.{definite}
use Rattle.contents.specs.declared.Span.{Span}
use Rattle.contents.specs.Search.{first_value, first_run, bounds_of, items_in}
use Rattle.contents.proofs.Firsts.{is_field}
use Rattle.elements.specs.declared.Edition.{Edition}
use Rattle.elements.specs.declared.Row.{Row}
use Rattle.elements.specs.Shape.{ContentItem, whole, pieced, Contents, profile, described, unit, style, protected, shape_of}
use Rattle.elements.specs.Judge.{bytes_of, joined_content, none_of, content_in, holders_of, content_of, Element, element_of, accepted, judge_from, judge}
use Rattle.elements.specs.ElementRows.{holder_in, content_octet, bounds_at, row_of, rows_of}
use Rattle.judging.proofs.Steps.{judged-one, judge-some}
use Rattle.letters.specs.Letter.{items_of_stream, rows_in}
use Rattle.letters.proofs.Standing.{Hollow, passes-one}
use Rattle.pieces.specs.Pieces.{joined}
use Rattle.sources.specs.Places.{piece_at, places_of, octets_at, Ascend}
use Rattle.sources.specs.Units.{places_with, places_at, content_places, places_of_each, places_in}
use Rattle.sources.proofs.Places.{one-read, read-places, one-ascends, ascends}

-- the value of the first primitive item with an octet stands at its bounds
pub value_read : (s : List ℕ) (octet : ℕ) → constructed octet ≡ false → (i : Items)
    → octets_at s (piece_at (bounds_of octet i).first (bounds_of octet i).past) ≡ bytes_of (first_value octet (plain s i))
unfolding octets_at bounds_of first_value
value_read s octet c no_items = refl
value_read s octet c (item at type first past inside after) =
    let more = value_read s octet c after in
    cases (eqb type octet)
    (λ t.
    let same : type ≡ octet = eqb-true type octet t in
    let form : constructed type ≡ false = ap constructed same ∙ c in
    rw (t, form, is_field octet type) (rw t (one-read s first past)))
    (λ t. cases (constructed type) (λ f. rw (t, f) more) (λ f. rw (t, f, is_field octet type) (rw t more)))

-- the run inside the first constructed item with an octet
pub run-there : (s : List ℕ) (octet : ℕ) → constructed octet ≡ true → (i : Items) → plain s (items_in octet i) ≡ first_run octet (plain s i)
unfolding items_in first_run
run-there s octet c no_items = refl
run-there s octet c (item at type first past inside after) =
    let more = run-there s octet c after in
    cases (eqb type octet)
    (λ t.
    let same : type ≡ octet = eqb-true type octet t in
    let form : constructed type ≡ true = ap constructed same ∙ c in
    rw (t, form, is_field octet type) (rw t))
    (λ t. cases (constructed type) (λ f. rw (t, f, is_field octet type) (rw t more)) (λ f. rw (t, f) more))

-- an item that holds the whole content is primitive, and one that holds pieces is constructed
abbrev pub FormedItem : ContentItem → Type 0
FormedItem (whole octet) = constructed octet ≡ false
FormedItem (pieced octet) = constructed octet ≡ true

abbrev pub Formed : List ContentItem → Type 0
Formed [] = Unit {0}
Formed (x ∷ xs) = FormedItem x × Formed xs

pub formed-by : (contents : Contents) → Formed (holders_of contents)
formed-by profile = tt
formed-by (described needed types) = tt
formed-by (unit needed false) = (refl, (refl, tt))
formed-by (unit needed true) = (refl, (refl, (refl, tt)))
formed-by style = tt
formed-by (protected true) = (refl, (refl, tt))
formed-by (protected false) = tt

-- what stands at the places of what holds a content
held-read : (s : List ℕ) (i : Items) (holders : List ContentItem) → Formed holders
    → octets_at s (places_at (holder_in holders (plain s i)) i) ≡ joined_content (content_in holders (plain s i))
unfolding octets_at places_with
held-read s i [] w = refl
held-read s i (whole octet ∷ others) w =
    let form = w.0 in
    cases (none_of octet (plain s i))
    (λ t. rw t (held-read s i others w.1))
    (λ t. rw (t, form) (value_read s octet form i))
held-read s i (pieced octet ∷ others) w =
    let form = w.0 in
    cases (none_of octet (plain s i))
    (λ t. rw t (held-read s i others w.1))
    (λ t. rw (t, form) (read-places s (items_in octet i) ∙ ap joined (run-there s octet form i)))

pub content-read : (edition : Edition) (s : List ℕ) (type : List ℕ) (i : Items) → let contents = (shape_of edition type).contents in
    octets_at s (content_places contents s i) ≡ joined_content (content_of contents (plain s i))
unfolding content_places content_octet content_of
content-read edition s type i = let contents = (shape_of edition type).contents in held-read s i (holders_of contents) (formed-by contents)

-- what the elements of a run say, one by one
unfoldable said_by : Edition → (s : List ℕ) → Items → List Element
said_by edition s no_items = []
said_by edition s (item at code first past inside after) = element_of (shape_of edition (type_field code)) (plain s inside) ∷ said_by edition s after

module _ (edition : Edition) (s : List ℕ) where
  judged-said : (i : Items) (done elements : List Element) → Hollow i → judge_from edition done (plain s i) ≡ accepted elements
      → elements ≡ done ++ said_by edition s i
  unfolding judge_from said_by
  judged-said no_items done elements w e = let f : done ≡ elements = cc in sym f ∙ sym (append-nil done)
  judged-said (item at code first past inside after) done elements w e =
      let own = element_of (shape_of edition (type_field code)) (plain s inside) in
      let p = passes-one edition done (type_field code) (plain s inside) (λ more. judge_from edition more (plain s after)) elements
      (sym (judged-one edition s done at code first past inside after w.0) ∙ e) in
      judged-said after (done ++ own ∷ []) elements w.1 p ∙ append_assoc done (own ∷ []) (said_by edition s after)

  each_read : (i : Items) (j : ℕ) (e : Element) → get_elem? (said_by edition s i) j ≡ some e
      → octets_at s (get_or (places_of_each edition s i) j []) ≡ joined_content e.content
  unfolding said_by places_of_each element_of
  each_read no_items j e there = let z : ◌≡◌ {A = ℕ} 0 1 = cc in absurd (omega arith)
  each_read (item at code first past inside after) zero e there =
      let own : element_of (shape_of edition (type_field code)) (plain s inside) ≡ e = cc in
      content-read edition s (type_field code) inside ∙ ap (λ (x : Element). joined_content x.content) own
  each_read (item at code first past inside after) (suc j) e there = each_read after j e there

  judge-from : (i : Items) (elements : List Element) → judge edition (plain s i) ≡ accepted elements → judge_from edition [] (plain s i) ≡ accepted elements
  unfolding judge
  judge-from no_items elements e = let z : ◌≡◌ {A = ℕ} 0 1 = cc in absurd (omega arith)
  judge-from (item at code first past inside after) elements e = sym (judge-some edition s (item at code first past inside after) (omega arith)) ∙ e

  -- of a letter
  pub element-read : Hollow (items_of_stream s) → (elements : List Element) → judge edition (tree_of s) ≡ accepted elements → (j : ℕ) (e : Element)
      → get_elem? elements j ≡ some e → octets_at s (places_in edition s j) ≡ joined_content e.content
  unfolding places_in
  element-read w elements judged j e there =
      let said = judged-said (items_of_stream s) [] elements w (judge-from (items_of_stream s) elements judged) in
      each_read (items_of_stream s) j e (subst (λ (es : List Element). get_elem? es j ≡ some e) said there)

  -- a row for each element
  said-rows : (i : Items) → length (said_by edition s i) ≡ length (rows_of edition s i)
  unfolding said_by rows_of
  said-rows no_items = refl
  said-rows (item at code first past inside after) = ap suc (said-rows after)

  pub elements-rows : Hollow (items_of_stream s) → (elements : List Element) → judge edition (tree_of s) ≡ accepted elements
      → length elements ≡ length (rows_in edition s)
  elements-rows w elements judged =
      ap length (judged-said (items_of_stream s) [] elements w (judge-from (items_of_stream s) elements judged)) ∙ said-rows (items_of_stream s)

-- the places of each item lie in its value, at every depth
abbrev pub Own : Items → Type 0
Own no_items = Unit {0}
Own (item at code first past inside after) = Ascend first past (cond (constructed code) (places_of inside) (piece_at first past)) × Own inside × Own after

pub owns : {s : List ℕ} {room at limit : ℕ} {marked : Bool} {i : Items} {e : End} → Runs s room at limit marked i e → (end : ℕ) → e ≡ ends end → Own i
owns (at_limit p) end e = tt
owns (unclosed p) end e = tt
owns (closes l h) end e = tt
owns (refuses l h) end e = tt
owns {s} (primitive {room} {at} {limit} {marked} {h} {after} l p q r) end e =
    let o = header_ok s at limit room marked h p in
    let m = definite s at limit marked room h p q h.marked refl in
    let past = past_of h.marked h.bound in
    let same : past ≡ h.bound = rw m in
    let order : h.start ≤ past = omega (arith, o.order) in
    (rw q (one-ascends h.start past order), tt, owns r end e)
owns {s} (passes {room} {at} {limit} {marked} {h} {inside} {after} {next} l p q v r) end e =
    (rw q (ascends v next refl), owns v next refl, owns r end e)
owns (breaks l p q v) end e = let z : ◌≡◌ {A = ℕ} 0 1 = cc in absurd (omega arith)

with-ascends : (octet : ℕ) (i : Items) → Own i → Ascend (bounds_of octet i).first (bounds_of octet i).past (places_with octet i)
unfolding places_with bounds_of items_in places_of
with-ascends octet no_items w = cases (constructed octet) (λ t. rw t (omega arith)) (λ t. rw t (omega arith))
with-ascends octet (item at type first past inside after) w =
    cases (eqb type octet)
    (λ t.
    let same : type ≡ octet = eqb-true type octet t in
    rw t (subst (λ (o : ℕ). Ascend first past (cond (constructed o) (places_of inside) (piece_at first past))) same w.0))
    (λ t. rw t (with-ascends octet after w.2))

at-ascends : (octet : Option ℕ) (i : Items) → Own i → Ascend (bounds_at octet i).first (bounds_at octet i).past (places_at octet i)
at-ascends none i w = omega arith
at-ascends (some octet) i w = with-ascends octet i w

-- they lie in the content fields of the row
pub row-ascends : (edition : Edition) (s : List ℕ) (i : Items) → Own i → (j : ℕ) (row : Row) → get_elem? (rows_of edition s i) j ≡ some row
    → Ascend row.content.first row.content.past (get_or (places_of_each edition s i) j [])
unfolding rows_of row_of places_of_each content_places
row-ascends edition s no_items w j row e = let z : ◌≡◌ {A = ℕ} 0 1 = cc in absurd (omega arith)
row-ascends edition s (item at code first past inside after) w zero row e =
    let contents = (shape_of edition (type_field code)).contents in
    let own : row_of (shape_of edition (type_field code)) s at (start_of (length s) after) inside ≡ row = cc in
    let pair : bounds_at (content_octet contents (plain s inside)) inside ≡ row.content = ap (λ (r : Row). r.content) own in
    subst (λ (v : Span). Ascend v.first v.past (content_places contents s inside)) pair (at-ascends (content_octet contents (plain s inside)) inside w.1)
row-ascends edition s (item at code first past inside after) w (suc j) row e = row-ascends edition s after w.2 j row e
