-- What the pieces of a letter show is told by its tree of items: of two streams with one tree, each element shows the same pieces, wherever they stand.
use mathlib.Core.Path.{◌≡◌, refl, ap, sym, ◌∙◌, subst}
use mathlib.Core.Bool.{false, cond}
use mathlib.Core.List.{List, [], ◌∷◌, ◌++◌, map}
use mathlib.Core.Option.{Option, none, some}
use Prim.Native.Nat.{ℕ, ◌<◌, ◌≤◌}
use native.Mathlib.Omega.{arith}
use borrow.Author.Tests.{ltb-true, ltb-false}
use borrow.Table.Steps.{cases}
use lib.Dec.{ltb}
use lib.ListN.{length, get_or, get_or-map}
use lib.Seq.{slice, length-slice}
use Rattle.headers.specs.Head.{constructed, type_field}
use Rattle.octets.specs.Walk.{Items, no_items, item, End, ends, stops, count, deepest}
use Rattle.octets.proofs.Walks.{EndOk, run_ok}
use Rattle.octets.proofs.RulesHold.{derives}
use Rattle.tree.specs.Tree.{Tree, empty, leaf, branch, plain, tree_of}
use Rattle.tree.specs.Accepts.{Whole}
use Rattle.runs.specs.Runs.{walk_in, whole_stream, Fine}
use Rattle.runs.proofs.Laws.{stream-fine}
use Rattle.contents.specs.declared.Span.{Span}
use Rattle.contents.specs.Search.{first_value, first_run, bounds_of, items_in}
use Rattle.elements.specs.declared.Edition.{Edition}
use Rattle.elements.specs.Shape.{Contents, shape_of}
use Rattle.elements.specs.Judge.{bytes_of, Element}
use Rattle.elements.specs.ElementRows.{bytes_in, content_octet}
use Rattle.letters.specs.Letter.{letter, letter_in, items_of_stream, Within, not_there, present}
use Rattle.letters.proofs.Letters.{letter-found}
use Rattle.letters.proofs.Nested.{Nested, stays, bounds-within, items-within}
use Rattle.letters.proofs.Standing.{Hollow, hollow}
use Rattle.sources.specs.Places.{piece_at, places_of}
use Rattle.sources.specs.Units.{places_with, places_at, content_places, places_of_each, places_in}
use Rattle.sources.proofs.Places.{slice-none, one-read}
use Rattle.sources.proofs.Units.{value_read, run-there}

-- a piece, if it has octets
abbrev some_octets : List ℕ → List (List ℕ)
some_octets [] = []
some_octets (x ∷ xs) = (x ∷ xs) ∷ []

-- the pieces of a run that have octets
unfoldable values_of : Tree → List (List ℕ)
values_of empty = []
values_of (leaf type value after) = some_octets value ++ values_of after
values_of (branch type inside after) = values_of inside ++ values_of after

-- what stands at each of some places
abbrev pub shown_at : (s : List ℕ) → List Span → List (List ℕ)
shown_at s ps = map (bytes_in s) ps

shown-append : (s : List ℕ) (ps qs : List Span) → shown_at s (ps ++ qs) ≡ shown_at s ps ++ shown_at s qs
shown-append s [] qs = refl
shown-append s (p ∷ ps) qs = ap (λ (z : List (List ℕ)). bytes_in s p ∷ z) (shown-append s ps qs)

some-there : (xs : List ℕ) → 0 < length xs → xs ∷ [] ≡ some_octets xs
some-there [] l = absurd (omega arith)
some-there (x ∷ xs) l = refl

module _ (s : List ℕ) (from to : ℕ) (in_stream : to ≤ length s) where
  piece-value : (first past : ℕ) → past ≤ to → shown_at s (piece_at first past) ≡ some_octets (slice first past s)
  piece-value first past l =
      cases (ltb first past)
      (λ t.
      let long = length-slice first past s (omega arith) in
      rw t (some-there (slice first past s) (omega (arith, ltb-true first past t))))
      (λ t. let nothing = slice-none first past s (ltb-false first past t) in rw (t, nothing))

  places-values : (i : Items) → Nested from to i → shown_at s (places_of i) ≡ values_of (plain s i)
  unfolding places_of values_of
  places-values no_items w = refl
  places-values (item at code first past inside after) w =
      let more = places-values after w.4 in
      cases (constructed code)
      (λ t. rw (t, shown-append s (places_of inside) (places_of after), places-values inside w.3, more))
      (λ t. rw (t, shown-append s (piece_at first past) (places_of after), piece-value first past w.2, more))

  -- of the first item with an octet
  abbrev values_with : (octet : ℕ) → Tree → List (List ℕ)
  values_with octet run = cond (constructed octet) (values_of (first_run octet run)) (some_octets (bytes_of (first_value octet run)))

  past-within : (v : Span) → Within from to v → v.past ≤ to
  past-within v (not_there e) = rw e (omega arith)
  past-within v (present a b c) = c

  with_values : (octet : ℕ) (i : Items) → Nested from to i → shown_at s (places_with octet i) ≡ values_with octet (plain s i)
  unfolding places_with
  with_values octet i w =
      let v = bounds_of octet i in
      cases (constructed octet)
      (λ t. rw t (places-values (items_in octet i) (items-within from to octet i w) ∙ ap values_of (run-there s octet t i)))
      (λ t.
      rw t (piece-value v.first v.past (past-within v (bounds-within from to octet i w))
      ∙ ap some_octets (sym (one-read s v.first v.past) ∙ value_read s octet t i)))

-- of an element
abbrev values_at : Option ℕ → Tree → List (List ℕ)
values_at none run = []
values_at (some octet) run = cond (constructed octet) (values_of (first_run octet run)) (some_octets (bytes_of (first_value octet run)))

abbrev content_values : Contents → Tree → List (List ℕ)
content_values contents run = values_at (content_octet contents run) run

unfoldable each_values : Edition → Tree → List (List (List ℕ))
each_values edition empty = []
each_values edition (leaf type value after) = content_values (shape_of edition type).contents empty ∷ each_values edition after
each_values edition (branch type inside after) = content_values (shape_of edition type).contents inside ∷ each_values edition after

module _ (edition : Edition) (s : List ℕ) (from to : ℕ) (in_stream : to ≤ length s) where
  at-values : (octet : Option ℕ) (i : Items) → Nested from to i → shown_at s (places_at octet i) ≡ values_at octet (plain s i)
  at-values none i w = refl
  at-values (some octet) i w = with_values s from to in_stream octet i w

  content-values : (contents : Contents) (i : Items) → Nested from to i → shown_at s (content_places contents s i) ≡ content_values contents (plain s i)
  unfolding content_places
  content-values contents i w = at-values (content_octet contents (plain s i)) i w

  each-values : (i : Items) → Hollow i → Nested from to i → map (shown_at s) (places_of_each edition s i) ≡ each_values edition (plain s i)
  unfolding places_of_each each_values
  each-values no_items h w = refl
  each-values (item at code first past inside after) h w =
      let contents = (shape_of edition (type_field code)).contents in
      let own = content-values contents inside w.3 in
      let more = each-values after h.1 w.4 in
      cases (constructed code)
      (λ t. rw (t, own, more))
      (λ t.
      let bare : shown_at s (content_places contents s inside) ≡ content_values contents empty =
      own ∙ ap (λ (i : Items). content_values contents (plain s i)) (h.0 t) in
      rw (t, bare, more))

-- what is known of the items of a stream that ended
pub record WholeItems (s : List ℕ) : Type 0 where
  pub hollow : Hollow (items_of_stream s)
  pub end : ℕ
  pub inside : end ≤ length s
  pub nested : Nested 0 end (items_of_stream s)

stream-values : (edition : Edition) (s : List ℕ) → WholeItems s → (j : ℕ) → shown_at s (places_in edition s j) ≡ get_or (each_values edition (tree_of s)) j []
unfolding places_in
stream-values edition s w j =
    let pss = places_of_each edition s (items_of_stream s) in
    sym (get_or-map (shown_at s) pss j [])
    ∙ ap (λ (vs : List (List (List ℕ))). get_or vs j []) (each-values edition s 0 w.end w.inside (items_of_stream s) w.hollow w.nested)

-- of a letter
whole_by : {s : List ℕ} → Fine s (whole_stream s) → (e : End) → (walk_in s (whole_stream s)).how ≡ e → Whole e → WholeItems s
whole_by {s} fine (ends next) e w =
    let rules = derives deepest s 0 (length s) false fine.order in
    let ok = subst (EndOk 0 (length s) (count (items_of_stream s))) e (run_ok deepest s 0 (length s) false fine.order) in
    record { hollow = hollow rules; end = next; inside = omega arith; nested = (stays rules next e).nested }
whole_by fine (stops number place) e w = absurd w

pub whole-items : (edition : Edition) (s : List ℕ) (headers : ℕ) (elements : List Element) → letter_in edition s ≡ letter headers elements → WholeItems s
whole-items edition s headers elements e =
    let found = letter-found edition s headers elements e in
    let fine = stream-fine s found.at headers found.walked in
    whole_by fine (walk_in s (whole_stream s)).how refl fine.whole

-- two streams with one tree
pub same-shown : (edition : Edition) (s r : List ℕ) → WholeItems s → WholeItems r → tree_of r ≡ tree_of s → (j : ℕ)
    → shown_at r (places_in edition r j) ≡ shown_at s (places_in edition s j)
same-shown edition s r w x e j =
    stream-values edition r x j ∙ ap (λ (t : Tree). get_or (each_values edition t) j []) e ∙ sym (stream-values edition s w j)
