-- Looking a joined name up among the text units yields the matches of a portion: a row has the name exactly when its element joins, and
-- no two units have it.
use Rattle.std.specs.Prelude.{Option, Some, None}
use mathlib.Core.Path.{◌≡◌, refl, ap, sym, ◌∙◌}
use mathlib.Core.Bool.{Bool, true, false}
use mathlib.Core.Option.{some}
use mathlib.Core.List.{List, [], ◌∷◌, ◌++◌}
use Prim.Native.Nat.{ℕ, zero, suc, ◌+◌, ◌<◌}
use native.Mathlib.Omega.{arith}
use lib.Dec.{ltb}
use lib.ListN.{get_elem?}
use borrow.Author.Tests.{ltb-true, lt-ltb}
use Rattle.headers.specs.Head.{is_in}
use Rattle.names.specs.Names.{space_byte}
use Rattle.contents.specs.declared.Span.{Span}
use Rattle.contents.specs.Search.{absent, octets}
use Rattle.rows.specs.Columns.{kind_at, first_at, past_at}
use Rattle.rows.specs.Rows.{name_space_of}
use Rattle.rows.specs.Chains.{Has, FindsRow}
use Rattle.elements.specs.Judge.{Element}
use Rattle.elements.specs.ElementRows.{bytes_in}
use Rattle.judging.proofs.Lists.{below_length}
use Rattle.reading.specs.declared.Match.{Match}
use Rattle.reading.specs.declared.Side.{Side}
use Rattle.reading.specs.declared.Side.TheVariants.{Layout, Logical}
use Rattle.reading.specs.Match.{unit_kind, kinds_of, name_on, joins, portion_matches, Joined}
use Rattle.letters.specs.Telling.{name_in, Tells, RowsTell, element_at, no_element}
use Rattle.rows.specs.Columns.{span_at}
use Rattle.reading.specs.Ready.{column_of, unit_space, found_matches, FoundBelow}
use Rattle.reading.proofs.Lists.{at-get_d}
use Rattle.reading.proofs.Each.{none_passes, one_passes}
use Rattle.reading.proofs.Matches.{joins-told, joined-joins}
use Rattle.reading.proofs.Single.{one_unit}

-- text units are alone in their name space
unit-kind : (kind : ℕ) → name_space_of kind ≡ unit_space → kind ≡ unit_kind
unfolding name_space_of
unit-kind zero e = absurd (omega arith)
unit-kind (suc zero) e = absurd (omega arith)
unit-kind (suc (suc zero)) e = absurd (omega arith)
unit-kind (suc (suc (suc zero))) e = refl
unit-kind (suc (suc (suc (suc zero)))) e = absurd (omega arith)
unit-kind (suc (suc (suc (suc (suc zero))))) e = absurd (omega arith)
unit-kind (suc (suc (suc (suc (suc (suc zero)))))) e = absurd (omega arith)
unit-kind (suc (suc (suc (suc (suc (suc (suc zero))))))) e = absurd (omega arith)
unit-kind (suc (suc (suc (suc (suc (suc (suc (suc zero)))))))) e = absurd (omega arith)
unit-kind (suc (suc (suc (suc (suc (suc (suc (suc (suc k))))))))) e = absurd (omega arith)

unit-space : name_space_of unit_kind ≡ unit_space
unfolding name_space_of
unit-space = refl

-- a name that is there
pub name-there : (s : List ℕ) (pair : Span) (bytes : List ℕ) → name_in s pair ≡ octets bytes → (pair.first < pair.past) × (bytes_in s pair ≡ bytes)
name-there s pair bytes e = by_test (ltb pair.first pair.past) refl
  where
    by_test : (t : Bool) → ltb pair.first pair.past ≡ t → (pair.first < pair.past) × (bytes_in s pair ≡ bytes)
    by_test true t =
        let f : octets (bytes_in s pair) ≡ octets bytes = rw t at e in
        let g : bytes_in s pair ≡ bytes = cc in
        (ltb-true pair.first pair.past t, g)
    by_test false t = let f : absent ≡ octets bytes = rw t at e in let z : ◌≡◌ {A = ℕ} 0 1 = cc in absurd (omega arith)

module _ {s rows : List ℕ} {n : ℕ} {elements : List Element} (ready : RowsTell s rows n elements) (side : Side) where
  -- what a row has at the column of the side is the name on that side
  name-told : (side : Side) (j : ℕ) (unit : Element) → Tells s rows j unit
      → name_on side unit ≡ name_in s (span_at rows (column_of side) j)
  name-told Layout j unit t = t.identifier
  name-told Logical j unit t = t.logical

  module _ (element : Element) (identifier portion : List ℕ) (on_side : is_in element.kind (kinds_of side) ≡ true)
      (named : element.identifier ≡ octets identifier) where
    abbrev bytes : List ℕ
    bytes = identifier ++ space_byte ∷ portion

    abbrev HasName : ℕ → Type 0
    HasName j = Has s rows (column_of side) n unit_space bytes j

    module _ (j : ℕ) (unit : Element) (there : get_elem? elements j ≡ some unit) where
      joins-has : joins side element portion unit ≡ true → HasName j
      joins-has t =
          let joined = joins-told side element portion unit t in
          let tells = ready.tells j unit there in
          let e : octets joined.identifier ≡ octets identifier = sym joined.named ∙ named in
          let f : joined.identifier ≡ identifier = cc in
          let g : name_on side unit ≡ octets bytes = joined.spelt ∙ ap (λ (l : List ℕ). octets (l ++ space_byte ∷ portion)) f in
          let h = name-there s (span_at rows (column_of side) j) bytes (sym (name-told side j unit tells) ∙ g) in
          record {
            below = omega (arith, below_length elements j unit there, ready.counted);
            present = h.0;
            of_space = ap name_space_of (tells.kind ∙ joined.of_unit) ∙ unit-space;
            of_bytes = h.1;
          }

      has-joined : HasName j → Joined side element portion unit
      has-joined has =
          let tells = ready.tells j unit there in
          let name : name_on side unit ≡ octets bytes =
          name-told side j unit tells ∙ rw (lt-ltb (first_at rows (column_of side) j) (past_at rows (column_of side) j) has.present)
          (ap octets has.of_bytes) in
          record {
            on_side = on_side;
            of_unit = sym tells.kind ∙ unit-kind (kind_at rows j) has.of_space;
            identifier = identifier;
            named = named;
            spelt = name;
          }

    module _ (e p : ℕ) where
      abbrev made : ℕ → Match
      made u = record { element = e; portion = p; unit = u }

      found-there : (u : ℕ) → HasName u → portion_matches side elements e element p portion ≡ made u ∷ []
      unfolding portion_matches has-joined
      found-there u has =
          let unit = element_at elements u in
          let there : get_elem? elements u ≡ some unit = at-get_d elements u no_element (omega (arith, has.below, ready.counted)) in
          let joined = has-joined u unit there has in
          let z : 0 + u ≡ u = omega arith in
          one_passes (joins side element portion) made 0 elements u unit there (joined-joins side element portion unit joined)
          (λ k other at t.
          let second = has-joined k other at (joins-has k other at t) in
          one_unit elements ready.apart side k u other unit bytes at there second.of_unit joined.of_unit second.spelt joined.spelt)
          ∙ ap (λ (k : ℕ). made k ∷ []) z

      found_nowhere : ((u : ℕ) → HasName u → ⊥) → portion_matches side elements e element p portion ≡ []
      unfolding portion_matches
      found_nowhere none = none_passes (joins side element portion) made 0 elements (λ k unit there t. none k (joins-has k unit there t))

      -- the matches of a portion are what the look-up of its joined name yields
      pub found-matches : (found : Option ℕ) → FindsRow s rows
          (column_of side) n unit_space bytes found → portion_matches side elements e element p portion ≡ found_matches e p found
      found-matches (Some u) finds = found-there u finds.0
      found-matches None finds = found_nowhere finds

-- a unit that is found is one of the first n rows
pub finds-below : (s rows : List ℕ) (column n name_space : ℕ) (bytes : List ℕ) (found : Option ℕ) → FindsRow s rows column n name_space bytes found
    → FoundBelow n found
finds-below s rows column n name_space bytes (Some u) finds = finds.0.below
finds-below s rows column n name_space bytes None finds = tt
