-- The matches of the elements that are made: each block lists one portion, and its unit is the only one with that name, since in an accepted
-- letter no two units have the same.
use mathlib.Core.Path.{◌≡◌, refl, ap, sym, ◌∙◌}
use mathlib.Core.Bool.{true, false}
use mathlib.Core.List.{List, [], ◌∷◌, ◌++◌}
use mathlib.Core.Option.{some}
use Prim.Native.Nat.{ℕ, zero, suc, ◌+◌, ◌*◌, ◌<◌}
use native.Mathlib.Omega.{arith}
use lib.ListN.{length, get_elem?}
use Rattle.names.specs.Names.{space_byte}
use Rattle.contents.specs.Search.{octets}
use Rattle.rows.specs.Rows.{name_space_of}
use Rattle.elements.specs.Judge.{Element}
use Rattle.letters.specs.Apart.{Apart}
use Rattle.letters.proofs.Apart.{identifiers-differ}
use Rattle.reading.specs.declared.Match.{Match}
use Rattle.reading.specs.declared.Side.{Side}
use Rattle.reading.specs.declared.Side.TheVariants.{Layout, Logical}
use Rattle.reading.specs.Match.{unit_kind, joins, for_each, only, portion_matches, element_matches, matches}
use Rattle.reading.proofs.Matches.{joins-told, joined-joins}
use Rattle.reading.proofs.Each.{each_none, one_passes}
use Rattle.making.specs.Entries.{Said, unit_name}
use Rattle.promises_made.specs.Reads.{profile_element, block_element, unit_element, entry_elements, elements_of, block_at, unit_at, match_of, matches_from}

-- the unit of entry k among the elements
entry-unit : (said : List Said) (k : ℕ) (x : Said) → get_elem? said k ≡ some x → get_elem? (entry_elements said) (suc (2 * k)) ≡ some (unit_element x)
unfolding entry_elements
entry-unit [] k x e = let z : ◌≡◌ {A = ℕ} 0 1 = cc in absurd (omega arith)
entry-unit (y ∷ said) zero x e = let p : y ≡ x = cc in rw p
entry-unit (y ∷ said) (suc k) x e =
    let n : suc (2 * suc k) ≡ suc (suc (suc (2 * k))) = omega arith in
    ap (get_elem? (block_element y ∷ unit_element y ∷ entry_elements said)) n ∙ entry-unit said k x e

pub unit_there : (said : List Said) (k : ℕ) (x : Said) → get_elem? said k ≡ some x → get_elem? (elements_of said) (unit_at k) ≡ some (unit_element x)
unit_there said k x e =
    let n : unit_at k ≡ suc (suc (2 * k)) = omega arith in
    ap (get_elem? (elements_of said)) n ∙ entry-unit said k x e

abbrev joined : (e u : ℕ) → Match
joined e u = record { element = e; portion = 0; unit = u }

-- an element that lists no portion has no match
none-listed : (side : Side) (elements : List Element) (n : ℕ) (element : Element) → element.portions ≡ [] → element_matches side elements n element ≡ []
unfolding element_matches for_each
none-listed side elements n element e = rw e

module _ (said : List Said) (apart : Apart (elements_of said)) where
  abbrev elements : List Element
  elements = elements_of said

  -- units of one name are one
  one_unit : (i j : ℕ) (d e : Element) (name : List ℕ) → get_elem? elements i ≡ some d → get_elem? elements j ≡ some e
      → d.kind ≡ unit_kind → e.kind ≡ unit_kind → d.identifier ≡ octets name → e.identifier ≡ octets name → i ≡ j
  one_unit i j d e name p q k l m n =
      let not-below : i < j → ⊥ = λ h. identifiers-differ apart i j d e h p q (ap name_space_of (k ∙ sym l)) name name m n refl in
      let not-above : j < i → ⊥ = λ h. identifiers-differ apart j i e d h q p (ap name_space_of (l ∙ sym k)) name name n m refl in
      omega arith

  module _ (k : ℕ) (x : Said) (there : get_elem? said k ≡ some x) where
    unit-joins : joins Layout (block_element x) x.portion (unit_element x) ≡ true
    unit-joins = joined-joins Layout (block_element x) x.portion (unit_element x)
        (record { on_side = refl; of_unit = refl; identifier = x.identifier; named = refl; spelt = refl })

    only-joins : (j : ℕ) (unit : Element) → get_elem? elements j ≡ some unit → joins Layout (block_element x) x.portion unit ≡ true → j ≡ unit_at k
    only-joins j unit p t =
        let w = joins-told Layout (block_element x) x.portion unit t in
        let i : x.identifier ≡ w.identifier = cc w.named in
        let n : unit.identifier ≡ octets (unit_name x) = w.spelt ∙ ap (λ (l : List ℕ). octets (l ++ space_byte ∷ x.portion)) (sym i) in
        one_unit j (unit_at k) unit (unit_element x) (unit_name x) p (unit_there said k x there) w.of_unit refl n refl

    -- the matches of a block: one
    block-matches : element_matches Layout elements (block_at k) (block_element x) ≡ match_of k ∷ []
    unfolding element_matches portion_matches for_each
    block-matches =
        let z : 0 + unit_at k ≡ unit_at k = omega arith in
        let one = one_passes (joins Layout (block_element x) x.portion) (joined (block_at k)) 0 elements (unit_at k) (unit_element x)
        (unit_there said k x there) unit-joins only-joins in
        ap (λ (l : List Match). l ++ []) (one ∙ ap (λ (u : ℕ). joined (block_at k) u ∷ []) z)

  layout-from : (k : ℕ) (rest : List Said) → ((j : ℕ) (x : Said) → get_elem? rest j ≡ some x → get_elem? said (k + j) ≡ some x)
      → for_each (block_at k) (entry_elements rest) (element_matches Layout elements) ≡ matches_from k (length rest)
  unfolding for_each entry_elements matches_from
  layout-from k [] there = refl
  layout-from k (x ∷ rest) there =
      let z : k + 0 ≡ k = omega arith in
      let n : suc (suc (block_at k)) ≡ block_at (suc k) = omega arith in
      let here = block-matches k x (ap (get_elem? said) (sym z) ∙ there 0 x refl) in
      let more = layout-from (suc k) rest (λ j y e. let m : suc k + j ≡ k + suc j = omega arith in ap (get_elem? said) m ∙ there (suc j) y e) in
      rw (here, none-listed Layout elements (suc (block_at k)) (unit_element x) refl, n, more)

  -- The layout list has the entries in their order and no others.
  pub layout-list : matches Layout elements ≡ matches_from 0 (length said)
  unfolding matches for_each
  layout-list = rw (none-listed Layout elements 0 profile_element refl) (layout-from 0 said (λ j x e. let m : 0 + j ≡ j = omega arith in ap (get_elem? said) m
      ∙ e))

  -- nothing joins a block on the logical side
  block_none : (n : ℕ) (x : Said) → element_matches Logical elements n (block_element x) ≡ []
  unfolding element_matches portion_matches for_each joins
  block_none n x = ap (λ (l : List Match). l ++ []) (each_none (λ u unit. only false (joined n u)) (λ u unit. refl) 0 elements)

  logical-from : (n : ℕ) (rest : List Said) → for_each n (entry_elements rest) (element_matches Logical elements) ≡ []
  unfolding for_each entry_elements
  logical-from n [] = refl
  logical-from n (x ∷ rest) = rw (block_none n x, none-listed Logical elements (suc n) (unit_element x) refl, logical-from (suc (suc n)) rest)

  -- The logical list has nothing.
  pub logical-list : matches Logical elements ≡ []
  unfolding matches for_each
  logical-list = rw (none-listed Logical elements 0 profile_element refl) (logical-from 1 said)
