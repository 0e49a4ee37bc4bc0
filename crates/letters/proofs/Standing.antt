-- Where element j of a stream stands: its row begins there, the rest of the stream from there is a run, and its first item is the
-- element. By the rules of the walk.
use mathlib.Core.Path.{◌≡◌, refl, ap, sym, ◌∙◌, subst}
use mathlib.Core.Bool.{Bool, false, false≢true}
use mathlib.Core.List.{List, [], ◌∷◌, ◌++◌}
use mathlib.Core.Option.{some}
use Prim.Native.Nat.{ℕ, zero, suc, ◌+◌, ◌<◌}
use native.Mathlib.Omega.{arith}
use borrow.Table.Steps.{cases}
use lib.Dec.{eqb}
use lib.ListN.{length, get_elem?, length-append}
use Rattle.headers.specs.Head.{constructed, type_field}
use Rattle.octets.specs.Walk.{Items, no_items, item, End, Walked, deepest, run, start_of}
use Rattle.octets.specs.Rules.{Runs, at_limit, unclosed, closes, refuses, primitive, passes, breaks}
use Rattle.octets.proofs.RulesHold.{derived, derives}
use Rattle.tree.specs.Tree.{Tree, empty, leaf, branch, plain, tree_of}
use Rattle.tree.specs.Accepts.{Whole}
use Rattle.runs.specs.declared.Run.{Run}
use Rattle.runs.specs.Runs.{walk_in, items_of, whole_stream, tops, definite_run, Fine, Meeting}
use Rattle.elements.specs.declared.Row.{Row}
use Rattle.elements.specs.declared.Edition.{Edition}
use Rattle.elements.specs.Shape.{shape_of}
use Rattle.elements.specs.Judge.{Element, element_of, refusal_of, Judged, accepted, refused, judge_one, judge_from, judge}
use Rattle.elements.specs.ElementRows.{row_of, rows_of}
use Rattle.judging.specs.declared.PlacedItem.{PlacedItem}
use Rattle.judging.specs.Judges.{shape_by, element_by}
use Rattle.letters.specs.Letter.{items_of_stream, rows_in}
use Rattle.letters.specs.Content.{from, ElementAt}
use Rattle.runs.proofs.Laws.{start-at}
use Rattle.judging.proofs.Lists.{below_length, at_front, at-end}
use Rattle.judging.proofs.Steps.{judged-one, judge-some}

-- a run from one of its items on, by its rules
pub record Begins (s : List ℕ) (room limit : ℕ) (marked : Bool) (items : Items) (end : End) : Type 0 where
  pub at : ℕ
  pub starts : start_of limit items ≡ at
  pub some_left : 0 < tops items
  pub before : at < limit
  pub runs : Runs s room at limit marked items end

begins : {s : List ℕ} {room at limit : ℕ} {marked : Bool} {items : Items} {end : End} → Runs s room at limit marked items end → (j : ℕ) → j < tops items
    → Begins s room limit marked (from j items) end
begins (at_limit p) j l = absurd (omega arith)
begins (unclosed p) j l = absurd (omega arith)
begins (closes l h) j k = absurd (omega arith)
begins (refuses l h) j k = absurd (omega arith)
begins (primitive {at = at} l p q r) zero k = record { at = at; starts = refl; some_left = omega arith; before = l; runs = primitive l p q r }
begins (primitive l p q r) (suc j) k = begins r j (omega arith)
begins (passes {at = at} l p q v r) zero k = record { at = at; starts = refl; some_left = omega arith; before = l; runs = passes l p q v r }
begins (passes l p q v r) (suc j) k = begins r j (omega arith)
begins (breaks {at = at} l p q v) zero k = record { at = at; starts = refl; some_left = omega arith; before = l; runs = breaks l p q v }
begins (breaks l p q v) (suc j) k = absurd (omega arith)

-- row j begins where item j does
row-starts : (edition : Edition) (s : List ℕ) (items : Items) (j : ℕ) (row : Row) → get_elem? (rows_of edition s items) j ≡ some row
    → row.whole.first ≡ start_of (length s) (from j items)
unfolding rows_of row_of
row-starts edition s no_items j row e = let z : ◌≡◌ {A = ℕ} 0 1 = cc in absurd (omega arith)
row-starts edition s (item at code first past inside after) zero row e =
    let own : row_of (shape_of edition (type_field code)) s at (start_of (length s) after) inside ≡ row = cc in sym (ap (λ (r : Row). r.whole.first) own)
row-starts edition s (item at code first past inside after) (suc j) row e = row-starts edition s after j row e

-- row j is that of item j
rows-from : (edition : Edition) (s : List ℕ) (items : Items) (j : ℕ) (at code first past : ℕ) (inside after : Items)
    → from j items ≡ item at code first past inside after
    → get_elem? (rows_of edition s items) j ≡ some (row_of (shape_of edition (type_field code)) s at (start_of (length s) after) inside)
unfolding rows_of
rows-from edition s no_items zero at code first past inside after e = let z : ◌≡◌ {A = ℕ} 0 1 = cc in absurd (omega arith)
rows-from edition s no_items (suc j) at code first past inside after e = let z : ◌≡◌ {A = ℕ} 0 1 = cc in absurd (omega arith)
rows-from edition s (item a o f p i t) zero at code first past inside after e = ap (λ (x : Items). get_elem? (rows_of edition s x) 0) e
rows-from edition s (item a o f p i t) (suc j) at code first past inside after e = rows-from edition s t j at code first past inside after e

pub rows-length : (edition : Edition) (s : List ℕ) (items : Items) → length (rows_of edition s items) ≡ tops items
unfolding rows_of
rows-length edition s no_items = refl
rows-length edition s (item at code first past inside after) = ap suc (rows-length edition s after)

-- primitive items have nothing inside
abbrev pub Hollow : Items → Type 0
Hollow no_items = Unit {0}
Hollow (item at code first past inside after) = (constructed code ≡ false → inside ≡ no_items) × Hollow after

pub hollow : {s : List ℕ} {room at limit : ℕ} {marked : Bool} {items : Items} {end : End} → Runs s room at limit marked items end → Hollow items
hollow (at_limit p) = tt
hollow (unclosed p) = tt
hollow (closes l h) = tt
hollow (refuses l h) = tt
hollow (primitive l p q r) = (λ _. refl, hollow r)
hollow (passes l p q v r) = (λ c. absurd (false≢true (sym c ∙ q)), hollow r)
hollow (breaks l p q v) = (λ c. absurd (false≢true (sym c ∙ q)), tt)

-- an element that passes, and what is judged after it
pub passes-one : (edition : Edition) (done : List Element) (type : List ℕ) (run : Tree) (more : List Element → Judged) (elements : List Element)
    → judge_one edition done type run more ≡ accepted elements
    → more (done ++ element_of (shape_of edition type) run ∷ []) ≡ accepted elements
unfolding judge_one
passes-one edition done type run more elements judged =
    let n = refusal_of edition done type run in
    cases (eqb n 0)
    (λ t. rw t at judged)
    (λ t. let q : refused n (length done) ≡ accepted elements = rw t at judged in let z : ◌≡◌ {A = ℕ} 0 1 = cc in absurd (omega arith))

module _ (edition : Edition) (s : List ℕ) (elements : List Element) where
  -- what is done stays
  done-stays : (t : Tree) (done : List Element) → judge_from edition done t ≡ accepted elements
      → (k : ℕ) (e : Element) → get_elem? done k ≡ some e → get_elem? elements k ≡ some e
  unfolding judge_from
  done-stays empty done judged k e there = let same : done ≡ elements = cc in subst (λ (es : List Element). get_elem? es k ≡ some e) same there
  done-stays (leaf type value after) done judged k e there =
      let p = passes-one edition done type empty (λ more. judge_from edition more after) elements judged in
      done-stays after (done ++ element_of (shape_of edition type) empty ∷ []) p k e
      (at_front done (element_of (shape_of edition type) empty ∷ []) k e there)
  done-stays (branch type inside after) done judged k e there =
      let p = passes-one edition done type inside (λ more. judge_from edition more after) elements judged in
      done-stays after (done ++ element_of (shape_of edition type) inside ∷ []) p k e
      (at_front done (element_of (shape_of edition type) inside ∷ []) k e there)

  -- the rest of a run is judged after the n that are done
  record Rest (items : Items) (n : ℕ) : Type 0 where
    done : List Element
    counted : length done ≡ n
    judged : judge_from edition done (plain s items) ≡ accepted elements
    hollow_rest : Hollow items

  module _ {at code first past : ℕ} {inside after : Items} {n : ℕ} (w : Rest (item at code first past inside after) n) where
    abbrev own : Element
    own = element_by edition code (plain s inside)

    passed : judge_from edition (w.done ++ own ∷ []) (plain s after) ≡ accepted elements
    passed =
        passes-one edition w.done (type_field code) (plain s inside) (λ more. judge_from edition more (plain s after)) elements
        (sym (judged-one edition s w.done at code first past inside after w.hollow_rest.0) ∙ w.judged)

    -- element n is that of the first item that is left
    own-stands : get_elem? elements n ≡ some own
    own-stands = done-stays (plain s after) (w.done ++ own ∷ []) passed n own (at-end w.done own n (sym w.counted))

    one_less : Rest after (n + 1)
    one_less = record {
      done = w.done ++ own ∷ [];
      counted = length-append w.done (own ∷ []) ∙ ap (λ (k : ℕ). k + 1) w.counted;
      judged = passed;
      hollow_rest = w.hollow_rest.1;
    }

  rest-from : (items : Items) (n : ℕ) → Rest items n → (j : ℕ) → j < tops items → Rest (from j items) (n + j)
  rest-from no_items n w j l = absurd (omega arith)
  rest-from (item at code first past inside after) n w zero l =
      let e : n ≡ n + 0 = omega arith in subst (Rest (item at code first past inside after)) e w
  rest-from (item at code first past inside after) n w (suc j) l =
      let e : n + 1 + j ≡ n + suc j = omega arith in subst (Rest (from j after)) e (rest-from after (n + 1) (one_less w) j (omega arith))

module _ (edition : Edition) {s : List ℕ} (fine : Fine s (whole_stream s)) (j : ℕ) (row : Row) (stands : get_elem? (rows_in edition s) j ≡ some row) where
  below : j < tops (items_of_stream s)
  below = omega (arith, below_length (rows_in edition s) j row stands, rows-length edition s (items_of_stream s))

  abbrev rules : Runs s deepest 0 (length s) false (items_of_stream s) (walk_in s (whole_stream s)).how
  rules = derives deepest s 0 (length s) false fine.order

  abbrev here : Begins s deepest (length s) false (from j (items_of_stream s)) (walk_in s (whole_stream s)).how
  here = begins rules j below

  -- the rest of the stream
  abbrev pub rest_from : Run
  rest_from = definite_run row.whole.first (length s) deepest

  at_row : here.at ≡ row.whole.first
  at_row = sym (row-starts edition s (items_of_stream s) j row stands ∙ here.starts)

  walked : walk_in s rest_from ≡ record { items = from j (items_of_stream s); how = (walk_in s (whole_stream s)).how }
  walked = ap (λ (at : ℕ). run deepest s at (length s) false) (sym at_row) ∙ sym (derived here.runs)

  pub rest-items : items_of s rest_from ≡ from j (items_of_stream s)
  rest-items = ap (λ (w : Walked). w.items) walked

  pub rest_fine : Fine s rest_from
  rest_fine = record {
    order = omega (arith, at_row, here.before);
    inside = omega arith;
    whole = subst (λ (w : Walked). Whole w.how) (sym walked) fine.whole;
  }

  pub rest_some : items_of s rest_from ≡ no_items → ⊥
  rest_some e = omega (arith, here.some_left, ap tops (sym rest-items ∙ e))

  -- what is met there is the element
  module _ (code first past : ℕ) (inside after : Items) (met : items_of s rest_from ≡ item row.whole.first code first past inside after)
      (elements : List Element) (judged : judge edition (tree_of s) ≡ accepted elements)
      (element : Element) (there : get_elem? elements j ≡ some element) where
    item_is : from j (items_of_stream s) ≡ item row.whole.first code first past inside after
    item_is = sym rest-items ∙ met

    from_first : judge_from edition [] (tree_of s) ≡ accepted elements
    from_first = sym (judge-some edition s (items_of_stream s) (omega (arith, below))) ∙ judged

    last : Rest edition s elements (item row.whole.first code first past inside after) j
    last =
        let none_done : Rest edition s elements (items_of_stream s) 0 = record { done = []; counted = refl; judged = from_first; hollow_rest = hollow rules } in
        let e : 0 + j ≡ j = omega arith in
        subst (λ (i : Items). Rest edition s elements i j) item_is
        (subst (Rest edition s elements (from j (items_of_stream s))) e (rest-from edition s elements (items_of_stream s) 0 none_done j below))

    own_row : row ≡ row_of (shape_by edition code) s row.whole.first (start_of (length s) after) inside
    own_row = let same_row = rows-from edition s (items_of_stream s) j row.whole.first code first past inside after item_is in cc

    own-element : element ≡ element_by edition code (plain s inside)
    own-element = let own = own-stands edition s elements last in cc

  pub element-at : (placed : PlacedItem) {first past : ℕ} {rest : Run} → Meeting s rest_from placed.code first past placed.inner rest
      → placed.first ≡ row.whole.first → placed.past ≡ rest.at → ElementAt edition s j placed
  element-at placed {first} {past} {rest} m starts ends = record {
    fine = m.inner_fine;
    first = first;
    past = past;
    after = items_of s rest;
    stands = sym rest-items ∙ m.tree
        ∙ ap (λ (at : ℕ). item at placed.code first past (items_of s placed.inner) (items_of s rest)) (sym starts);
    said = λ elements other element judged other-stands there.
        let same : row ≡ other = cc in
        let inside = items_of s placed.inner in
        let after = items_of s rest in
        let shape = shape_by edition placed.code in
        let ends_there : start_of (length s) after ≡ placed.past =
        ap (λ (end : ℕ). start_of end after) (sym m.rest_limit) ∙ start-at m.rest_fine m.rest_marked ∙ sym ends in
        record {
          row_is = sym same ∙ own_row placed.code first past inside after m.tree elements judged element there
              ∙ ap (λ (at : ℕ). row_of shape s at (start_of (length s) after) inside) (sym starts)
              ∙ ap (λ (end : ℕ). row_of shape s placed.first end inside) ends_there;
          element_is = own-element placed.code first past inside after m.tree elements judged element there;
        };
  }
