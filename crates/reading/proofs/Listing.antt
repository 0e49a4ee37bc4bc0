-- What is known while the portions of an element are listed: what is put, and then what the portions that are left yield, is all.
use Rattle.std.specs.Prelude.{Option, Some, None}
use mathlib.Core.Path.{◌≡◌, refl, ap, sym, ◌∙◌, subst}
use mathlib.Core.Bool.{true, false, ◌&&◌, true≢false, and-eq-true_iff}
use mathlib.Core.Option.{some}
use mathlib.Core.List.{List, [], ◌∷◌, ◌++◌}
use Prim.Native.Nat.{ℕ, suc, ◌+◌, ◌*◌, ◌<◌, ◌≤◌}
use native.Mathlib.Omega.{arith}
use native.Mathlib.Numerals.{add-one}
use lib.Dec.{ltb}
use lib.ListN.{length, get_elem?, length-append}
use lib.Seq.{slice}
use borrow.Author.Tests.{ltb-true, ltb-false, lt-ltb}
use borrow.Table.Steps.{cases}
use Rattle.headers.specs.Head.{is_in}
use Rattle.octets.specs.Walk.{no_items, Walked}
use Rattle.octets.specs.Rules.{at_limit}
use Rattle.octets.proofs.RulesHold.{derived}
use Rattle.names.specs.Names.{space_byte}
use Rattle.contents.specs.Search.{absent, octets}
use Rattle.runs.specs.declared.Run.{Run}
use Rattle.runs.specs.Runs.{items_of, tree_in, Fine, Meeting}
use Rattle.portions.specs.Portions.{most_portions, all_portions, values}
use Rattle.portions.proofs.Meetings.{values-next, portions-left, values-end}
use Rattle.rows.specs.Columns.{identifier_column, kind_at, first_at, past_at, value_at}
use Rattle.rows.specs.Chains.{FindsRow}
use Rattle.elements.specs.Judge.{Element}
use Rattle.reading.specs.declared.Match.{Match}
use Rattle.reading.specs.declared.Side.{Side}
use Rattle.reading.specs.Match.{kinds_of, for_each, portion_matches, element_matches}
use Rattle.reading.specs.Records.{PutsRecords}
use Rattle.letters.specs.Telling.{Tells, RowsTell, element_at, no_element}
use Rattle.rows.specs.Columns.{portions_at, portions_column}
use Rattle.reading.specs.Ready.{column_of, unit_space, is_listed, Room, PutsElement, found_matches, FoundBelow}
use Rattle.reading.proofs.Lists.{at-get_d}
use Rattle.reading.proofs.OnePlace.{few-portions}
use Rattle.reading.proofs.Matches.{joins-told}
use Rattle.reading.proofs.Single.{unread}
use Rattle.reading.proofs.Putting.{puts_none, puts_then, puts-length}
use Rattle.reading.proofs.Looking.{found-matches, finds-below}

-- the matches of the portions that are left
abbrev pub to_come : Side → (s : List ℕ) → List Element → (element : ℕ) → (left : Run) → (place : ℕ) → List Match
to_come side s elements element left place = for_each place (values (tree_in s left)) (portion_matches side elements element (element_at elements element))

-- an element that is listed is read on the side, and has an identifier
record Named (side : Side) (rows : List ℕ) (n e : ℕ) : Type 0 where
  below : e < n
  on_side : is_in (kind_at rows e) (kinds_of side) ≡ true
  named : first_at rows identifier_column e < past_at rows identifier_column e

listed-named : (side : Side) (rows : List ℕ) (n e : ℕ) → e < n → is_listed side rows e ≡ true → Named side rows n e
unfolding is_listed
listed-named side rows n e l t =
    let on = is_in (kind_at rows e) (kinds_of side) in
    let there = ltb (first_at rows identifier_column e) (past_at rows identifier_column e) in
    let a = (and-eq-true_iff (on && there) (ltb (first_at rows portions_column e) (past_at rows portions_column e))).0 t in
    let b = (and-eq-true_iff on there).0 a.0 in
    record { below = l; on_side = b.0; named = ltb-true _ _ b.1 }

pub record Listing (side : Side) (s rows : List ℕ) (n element : ℕ) (flat₀ : List ℕ) (count : ℕ) (flat : List ℕ) (left : Run) (place total : ℕ) : Type 0 where
  pub fine : Fine s left
  pub only_portions : all_portions (tree_in s left) ≡ true
  pub placed : place + length (values (tree_in s left)) ≤ most_portions
  pub kept : length flat ≡ length flat₀
  pub room : (elements : List Element) → RowsTell s rows n elements → 3 * (total + length (to_come side s elements element left place)) ≤ length flat
  pub goes_on : (elements : List Element) → RowsTell s rows n elements → (after : List ℕ) (end : ℕ)
      → PutsRecords flat total (to_come side s elements element left place) after end
      → PutsRecords flat₀ count (element_matches side elements element (element_at elements element)) after end

module _ (s rows : List ℕ) (n element : ℕ) (below : element < n) (elements : List Element) (ready : RowsTell s rows n elements) where
  pub element_there : get_elem? elements element ≡ some (element_at elements element)
  element_there = at-get_d elements element no_element (omega (arith, ready.counted))

  pub element-told : Tells s rows element (element_at elements element)
  element-told = ready.tells element (element_at elements element) element_there

  all-to-come : (side : Side) → to_come side s elements element (portions_at rows element) 0
      ≡ element_matches side elements element (element_at elements element)
  unfolding element_matches
  all-to-come side = ap (λ (vs : List (List ℕ)). for_each 0 vs (portion_matches side elements element (element_at elements element))) element-told.portions

module _ {side : Side} {s rows : List ℕ} {n element : ℕ} {of_letter : List Element} (known : RowsTell s rows n of_letter) (below : element < n)
    (is-listed : is_listed side rows element ≡ true) where
  abbrev named : Named side rows n element
  named = listed-named side rows n element below is-listed

  -- at the start all are left
  pub listing-all : (flat : List ℕ) (count : ℕ) → Room side s rows n element flat count → Listing side s rows n element flat count flat
      (portions_at rows element) 0 count
  listing-all flat count room =
      let there = element-told s rows n element named.below of_letter known in
      let spelt = known.apart.spelt element (element_at of_letter element) (element_there s rows n element named.below of_letter known) in
      record {
        fine = there.portions_fine;
        only_portions = there.only_portions;
        placed = omega (arith, ap length there.portions, few-portions (element_at of_letter element) spelt);
        kept = refl;
        room = λ elements ready. rw (all-to-come s rows n element named.below elements ready side) (room elements ready);
        goes_on = λ elements ready after end p. subst (λ (ms : List Match). PutsRecords flat count ms after end)
            (all-to-come s rows n element named.below elements ready side) p;
      }

  module _ {flat₀ : List ℕ} {count : ℕ} {flat : List ℕ} {left : Run} {place total : ℕ}
      (listing : Listing side s rows n element flat₀ count flat left place total) where
    -- at the end all are put
    pub listing_none : items_of s left ≡ no_items → PutsElement side s rows n element flat₀ count flat total
    unfolding for_each
    listing_none e elements ready =
        listing.goes_on elements ready flat total
        (subst (λ (vs : List (List ℕ)). PutsRecords flat total
        (for_each place vs (portion_matches side elements element (element_at elements element))) flat total)
        (sym (values-end s left e)) (puts_none flat total))

    module _ {code from to : ℕ} {inner rest : Run} (met : Meeting s left code from to inner rest) (found : Option ℕ)
        (finds : FindsRow s rows (column_of side) n unit_space
        (value_at s rows identifier_column element ++ space_byte ∷ slice from to s) found) where
      -- a portion that is met yields what was found, and then come the others
      one_more : (elements : List Element) → RowsTell s rows n elements
          → to_come side s elements element left place ≡ found_matches element place found ++ to_come side s elements element rest (place + 1)
      unfolding for_each
      one_more elements ready =
          let x = element_at elements element in
          let told = element-told s rows n element named.below elements ready in
          let on_side : is_in x.kind (kinds_of side) ≡ true = ap (λ (k : ℕ). is_in k (kinds_of side)) (sym told.kind) ∙ named.on_side in
          let name : x.identifier ≡ octets (value_at s rows identifier_column element) =
          told.identifier ∙ rw (lt-ltb (first_at rows identifier_column element) (past_at rows identifier_column element) named.named) in
          let first = found-matches ready side x (value_at s rows identifier_column element) (slice from to s)
          on_side name element place found finds in
          ap (λ (vs : List (List ℕ)). for_each place vs (portion_matches side elements element x)) (values-next met listing.only_portions)
          ∙ rw (first, add-one place)

      some_left : length (values (tree_in s left)) ≡ suc (length (values (tree_in s rest)))
      some_left = ap length (values-next met listing.only_portions)

      -- so there is room for it, and its numbers are small,
      pub room-for-one : 3 * (total + length (found_matches element place found)) ≤ length flat
      room-for-one =
          let r = listing.room of_letter known in
          let e = ap length (one_more of_letter known)
          ∙ length-append (found_matches element place found) (to_come side s of_letter element rest (place + 1)) in
          omega arith

      pub small-element : element < 4294967296
      small-element = omega (arith, named.below, known.counted, known.apart.few)

      pub small-place : place < most_portions
      small-place = omega (arith, listing.placed, some_left)

      pub found-small : FoundBelow 4294967296 found
      found-small = smaller found (finds-below s rows (column_of side) n unit_space
          (value_at s rows identifier_column element ++ space_byte ∷ slice from to s) found finds)
        where
          smaller : (f : Option ℕ) → FoundBelow n f → FoundBelow 4294967296 f
          smaller (Some u) b = omega (arith, known.counted, known.apart.few)
          smaller None b = tt

      -- and once it is put, the others are left
      pub listing-more : {flat' : List ℕ} {total' : ℕ} → PutsRecords flat total (found_matches element place found) flat' total'
          → Listing side s rows n element flat₀ count flat' rest (place + 1) total'
      listing-more {flat'} {total'} put = record {
        fine = met.rest_fine;
        only_portions = portions-left met listing.only_portions;
        placed = omega (arith, listing.placed, some_left);
        kept = puts-length put ∙ listing.kept;
        room = λ elements ready.
            let r = listing.room elements ready in
            let e = ap length (one_more elements ready)
            ∙ length-append (found_matches element place found) (to_come side s elements element rest (place + 1)) in
            omega (arith, put.counted, puts-length put);
        goes_on = λ elements ready after end p.
            listing.goes_on elements ready after end
            (subst (λ (ms : List Match). PutsRecords flat total ms after end) (sym (one_more elements ready))
            (puts_then (found_matches element place found) (to_come side s elements element rest (place + 1)) put p));
      }

-- an element that is not listed has no match
module _ (side : Side) (s rows : List ℕ) (n e : ℕ) (below : e < n) (elements : List Element) (ready : RowsTell s rows n elements) where
  abbrev x : Element
  x = element_at elements e

  abbrev told : Tells s rows e x
  told = element-told s rows n e below elements ready

  other-kind : is_in (kind_at rows e) (kinds_of side) ≡ false → element_matches side elements e x ≡ []
  other-kind t =
      unread side elements e x (λ portion unit j.
      true≢false (sym (joins-told side x portion unit j).on_side ∙ ap (λ (k : ℕ). is_in k (kinds_of side)) (sym told.kind) ∙ t))

  no_name : ltb (first_at rows identifier_column e) (past_at rows identifier_column e) ≡ false → element_matches side elements e x ≡ []
  no_name t =
      unread side elements e x (λ portion unit j.
      let a : absent ≡ octets (joins-told side x portion unit j).identifier = sym (told.identifier ∙ rw t) ∙ (joins-told side x portion unit j).named in
      let z : ◌≡◌ {A = ℕ} 0 1 = cc in
      omega arith)

  no-portion : ltb (first_at rows portions_column e) (past_at rows portions_column e) ≡ false → element_matches side elements e x ≡ []
  unfolding element_matches for_each
  no-portion t =
      let fine = told.portions_fine in
      let at : first_at rows portions_column e ≡ past_at rows portions_column e = omega (
        arith,
        ltb-false (first_at rows portions_column e) (past_at rows portions_column e) t,
        fine.order,
      ) in
      let empty : items_of s (portions_at rows e) ≡ no_items = ap (λ (w : Walked). w.items) (sym (derived (at_limit at))) in
      let none_left : x.portions ≡ [] = sym told.portions ∙ values-end s (portions_at rows e) empty in
      rw none_left

  pub unlisted : is_listed side rows e ≡ false → element_matches side elements e x ≡ []
  unfolding is_listed
  unlisted t =
      cases (is_in (kind_at rows e) (kinds_of side))
      (λ a. cases (ltb (first_at rows identifier_column e) (past_at rows identifier_column e)) (λ b. no-portion (rw (a, b) at t)) no_name)
      other-kind
