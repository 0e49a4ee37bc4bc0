-- What is found for a unit is its record: the name before the last space is that of the record's element, and no two classes or objects share a
-- name; what stands after it is the record's portion.
use mathlib.Core.Path.{◌≡◌, ap, sym, ◌∙◌, subst}
use mathlib.Core.Bool.{true, false, ◌&&◌, true≢false, and-eq-true_iff}
use mathlib.Core.Option.{some}
use mathlib.Core.List.{List, ◌∷◌, ◌++◌}
use Prim.Native.Nat.{ℕ, ◌+◌, ◌<◌, ◌≤◌}
use native.Mathlib.Omega.{arith}
use lib.Dec.{leb}
use lib.ListN.{length, get_elem?}
use lib.Seq.{slice}
use borrow.Author.Tests.{lt-ltb}
use borrow.Table.Steps.{cases}
use Rattle.headers.specs.Head.{is_in}
use Rattle.names.specs.Names.{space_byte, longest_portion, all_digits, is_portion}
use Rattle.contents.specs.Search.{absent, octets}
use Rattle.rows.specs.Columns.{identifier_column, kind_at, first_at, past_at}
use Rattle.rows.specs.Rows.{name_space_of}
use Rattle.rows.specs.Chains.{Has}
use Rattle.elements.specs.Judge.{Element}
use Rattle.judging.proofs.Lists.{below_length}
use Rattle.reading.specs.declared.Side.{Side}
use Rattle.reading.specs.declared.Side.TheVariants.{Layout, Logical}
use Rattle.reading.specs.Match.{unit_kind, kinds_of, name_on, IsMatch}
use Rattle.letters.specs.Telling.{name_in, Tells, RowsTell, element_at}
use Rattle.rows.specs.Columns.{span_at}
use Rattle.reading.specs.Ready.{column_of}
use Rattle.reading.proofs.Looking.{name-there}
use Rattle.reading.proofs.Listing.{element_there}
use Rattle.reading.proofs.OnePlace.{portion-spelt}
use Rattle.reading.proofs.Single.{side-space}
use Rattle.reading.proofs.Matches.{matches-are, matches-all}
use Rattle.parents.specs.Parent.{shorter}
use Rattle.parents.specs.Lookup.{object_space, CutAt}
use Rattle.parents.proofs.Shorter.{shorter-at, digits-whole}
use Rattle.parents.proofs.Finding.{one-carrier}
use Rattle.owners.specs.declared.Owner.{Owner}
use Rattle.std.specs.Prelude.{Option, None}
use Rattle.owners.specs.Owner.{match_of, of, OwnerIs, listed_at, owner_among, owner_by}
use Rattle.owners.proofs.Among.{Finding, at, nowhere, among-tells}
use Rattle.owners.proofs.Cutting.{same_after, front_is, parts_are}

portion-whole : (portion : List ℕ) → is_portion portion ≡ true → shorter portion ≡ absent
unfolding is_portion
portion-whole portion t = digits-whole portion ((and-eq-true_iff (leb 1 (length portion) && leb (length portion) longest_portion) (all_digits portion)).0 t).1

module _ {s rows : List ℕ} {n : ℕ} {elements : List Element} (ready : RowsTell s rows n elements) (side : Side) (u : ℕ) where
  abbrev first : ℕ
  first = first_at rows (column_of side) u

  abbrev past : ℕ
  past = past_at rows (column_of side) u

  -- a row that is no text unit
  pub no-unit : (kind_at rows u ≡ unit_kind → ⊥) → OwnerIs side elements u None
  no-unit other e p m =
      let i = matches-are side elements (match_of e p u) m in
      other ((ready.tells u i.unit i.unit_there).kind ∙ i.joined.of_unit)

  name-told : (on : Side) (unit : Element) → Tells s rows u unit → name_on on unit ≡ name_in s (span_at rows (column_of on) u)
  name-told Layout unit t = t.identifier
  name-told Logical unit t = t.logical

  module _ {e p : ℕ} (i : IsMatch side elements (match_of e p u)) where
    name-bytes : slice first past s ≡ i.joined.identifier ++ space_byte ∷ i.portion
    name-bytes =
        (name-there s (span_at rows (column_of side) u) (i.joined.identifier ++ space_byte ∷ i.portion)
        (sym (name-told side i.unit (ready.tells u i.unit i.unit_there)) ∙ i.joined.spelt)).1

    name-shorter : shorter (slice first past s) ≡ octets i.joined.identifier
    name-shorter =
        ap shorter name-bytes
        ∙ shorter-at i.joined.identifier i.portion
        (portion-whole i.portion (portion-spelt i.element (ready.apart.spelt e i.element i.element_there) p i.portion i.portion_there))

  -- an identifier of one group
  pub one-group : shorter (slice first past s) ≡ absent → OwnerIs side elements u None
  one-group none e p m =
      let i = matches-are side elements (match_of e p u) m in
      let f : absent ≡ octets i.joined.identifier = sym none ∙ name-shorter i in
      cc

  module _ {cut : ℕ} (last : CutAt s first past cut) (inside : past ≤ length s) where
    abbrev front : List ℕ
    front = slice first cut s

    abbrev after : List ℕ
    after = slice (cut + 1) past s

    abbrev HasFront : ℕ → Type 0
    HasFront k = Has s rows identifier_column n object_space front k

    -- a record of the unit is of an element with the name before the space, and of the portion after it
    module _ {e p : ℕ} (i : IsMatch side elements (match_of e p u)) where
      same-front : i.joined.identifier ≡ front
      same-front = let f : octets i.joined.identifier ≡ octets front = sym (name-shorter i) ∙ front_is last inside in cc

      same-portion : i.portion ≡ after
      same-portion =
          let a : front ++ space_byte ∷ i.portion ≡ front ++ space_byte ∷ after =
          ap (λ (l : List ℕ). l ++ space_byte ∷ i.portion) (sym same-front) ∙ sym (name-bytes i) ∙ parts_are last inside in
          let b : space_byte ∷ i.portion ≡ space_byte ∷ after = same_after front (space_byte ∷ i.portion) (space_byte ∷ after) a in
          cc

      of-objects : name_space_of i.element.kind ≡ object_space
      of-objects = side-space side i.element.kind i.joined.on_side

      named-front : i.element.identifier ≡ octets front
      named-front = i.joined.named ∙ ap octets same-front

      has-front : HasFront e
      has-front =
          let tells = ready.tells e i.element i.element_there in
          let h = name-there s (span_at rows identifier_column e) front (sym tells.identifier ∙ named-front) in
          record {
            below = omega (arith, below_length elements e i.element i.element_there, ready.counted);
            present = h.0;
            of_space = ap name_space_of tells.kind ∙ of-objects;
            of_bytes = h.1;
          }

    -- nobody carries that name
    pub no-carrier : ((k : ℕ) → HasFront k → ⊥) → OwnerIs side elements u None
    no-carrier never e p m = never e (has-front (matches-are side elements (match_of e p u) m))

    module _ (row : ℕ) (has : HasFront row) where
      abbrev carrier : Element
      carrier = element_at elements row

      carrier-there : get_elem? elements row ≡ some carrier
      carrier-there = element_there s rows n row has.below elements ready

      abbrev told : Tells s rows row carrier
      told = ready.tells row carrier carrier-there

      carrier-named : carrier.identifier ≡ octets front
      carrier-named = told.identifier ∙ rw (lt-ltb (first_at rows identifier_column row) (past_at rows identifier_column row) has.present)
          (ap octets has.of_bytes)

      -- the record's element is the one that was found
      same_row : {e p : ℕ} → IsMatch side elements (match_of e p u) → e ≡ row
      same_row {e} i =
          one-carrier elements ready.apart e row i.element carrier front i.element_there carrier-there (of-objects i)
          (ap name_space_of (sym told.kind) ∙ has.of_space) (named-front i) carrier-named

      same-element : {e p : ℕ} → (i : IsMatch side elements (match_of e p u)) → i.element ≡ carrier
      same-element i =
          let f : some i.element ≡ some carrier = sym i.element_there ∙ ap (get_elem? elements) (same_row i) ∙ carrier-there in
          cc

      other-side : is_in (kind_at rows row) (kinds_of side) ≡ false → OwnerIs side elements u None
      other-side t e p m =
          let i = matches-are side elements (match_of e p u) m in
          let k : i.element.kind ≡ kind_at rows row = ap (λ (x : Element). x.kind) (same-element i) ∙ sym told.kind in
          true≢false (sym i.joined.on_side ∙ ap (λ (x : ℕ). is_in x (kinds_of side)) k ∙ t)

      module _ (of_unit : kind_at rows u ≡ unit_kind) (below : u < n) (on_side : is_in (kind_at rows row) (kinds_of side) ≡ true) where
        abbrev unit : Element
        unit = element_at elements u

        unit_there : get_elem? elements u ≡ some unit
        unit_there = element_there s rows n u below elements ready

        unit-told : Tells s rows u unit
        unit-told = ready.tells u unit unit_there

        -- a portion that has the octets after the space makes the record
        a-record : (place : ℕ) → get_elem? (listed_at s rows row) place ≡ some after → IsMatch side elements (match_of row place u)
        a-record place there =
            let first-before : first < past = omega (arith, last.after, last.before) in
            record {
              element = carrier;
              portion = after;
              unit = unit;
              element_there = carrier-there;
              portion_there = ap (λ (l : List (List ℕ)). get_elem? l place) (sym told.portions) ∙ there;
              unit_there = unit_there;
              joined = record {
                on_side = ap (λ (k : ℕ). is_in k (kinds_of side)) (sym told.kind) ∙ on_side;
                of_unit = sym unit-told.kind ∙ of_unit;
                identifier = front;
                named = carrier-named;
                spelt = name-told side unit unit-told ∙ rw (lt-ltb first past first-before) (ap octets (parts_are last inside));
              };
            }

        by-finding : (owner : Option Owner) → Finding row 0 (listed_at s rows row) after owner → OwnerIs side elements u owner
        by-finding owner (at f) =
            let z : 0 + f.place ≡ f.place = omega arith in
            subst (OwnerIs side elements u) (sym (f.is
            ∙ ap (of row) z)) (matches-all side elements (match_of row f.place u) (a-record f.place f.there))
        by-finding owner (nowhere none never) =
            subst (OwnerIs side elements u) (sym none) (λ e p m.
            let i = matches-are side elements (match_of e p u) m in
            let there : get_elem? (listed_at s rows row) p ≡ some after =
            ap (λ (l : List (List ℕ)). get_elem? l p) (told.portions ∙ ap (λ (x : Element). x.portions) (sym (same-element i)))
            ∙ i.portion_there ∙ ap some (same-portion i) in
            never p there)

      -- what is found by the row that carries the name
      pub by-carrier : kind_at rows u ≡ unit_kind → u < n → OwnerIs side elements u (owner_by side s rows row (cut + 1) past)
      by-carrier of_unit below =
          cases (is_in (kind_at rows row) (kinds_of side))
          (λ t. rw t (by-finding of_unit below t (owner_among row 0 (listed_at s rows row) after) (among-tells row 0 (listed_at s rows row) after)))
          (λ t. rw t (other-side t))
