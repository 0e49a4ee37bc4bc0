-- What is known while the elements are taken in turn: what is put, and then what the elements that are left yield, is all. There is room,
-- since there are no more matches than elements.
use mathlib.Core.Path.{◌≡◌, refl, ap, sym, ◌∙◌, subst}
use mathlib.Core.List.{List, ◌++◌}
use Prim.Native.Nat.{ℕ, ◌+◌, ◌*◌, ◌<◌, ◌≤◌}
use native.Mathlib.Omega.{arith}
use native.Mathlib.Numerals.{add-one}
use lib.ListN.{length, drop, length-append, drop_of_length-le}
use lib.Seq.{drop-cons}
use Rattle.elements.specs.Judge.{Element}
use Rattle.reading.specs.declared.Match.{Match}
use Rattle.reading.specs.declared.Side.{Side}
use Rattle.reading.specs.Match.{for_each, element_matches, matches}
use Rattle.reading.specs.Records.{PutsRecords}
use Rattle.letters.specs.Telling.{RowsTell, element_at, no_element}
use Rattle.reading.specs.Ready.{Room, PutsElement, PutsAll}
use Rattle.reading.proofs.Putting.{puts_none, puts_then}
use Rattle.reading.proofs.Single.{no-more-than-elements}

-- the matches of the elements that are left
abbrev left : Side → List Element → (element : ℕ) → List Match
left side elements element = for_each element (drop element elements) (element_matches side elements)

pub record Turning (side : Side) (s rows : List ℕ) (n : ℕ) (flat₀ flat : List ℕ) (element count : ℕ) : Type 0 where
  pub within : element ≤ n
  pub kept : length flat ≡ length flat₀
  pub room : (elements : List Element) → RowsTell s rows n elements → 3 * (count + length (left side elements element)) ≤ length flat
  pub goes_on : (elements : List Element) → RowsTell s rows n elements → (after : List ℕ) (end : ℕ)
      → PutsRecords flat count (left side elements element) after end → PutsRecords flat₀ 0 (matches side elements) after end

-- at the start all are left
pub turning-all : (side : Side) (s rows : List ℕ) (n : ℕ) (flat : List ℕ) → 3 * n ≤ length flat → Turning side s rows n flat flat 0 0
unfolding matches
turning-all side s rows n flat enough = record {
  within = omega arith;
  kept = refl;
  room = λ elements ready. omega (arith, no-more-than-elements elements ready.apart side, ready.counted);
  goes_on = λ elements ready after end p. p;
}

module _ {side : Side} {s rows : List ℕ} {n : ℕ} {flat₀ flat : List ℕ} {element count : ℕ} (turning : Turning side s rows n flat₀ flat element count) where
  -- at the end all are put
  pub turning-none : n ≤ element → PutsAll side s rows n flat₀ flat count
  unfolding for_each
  turning-none l elements ready =
      turning.goes_on elements ready flat count
      (subst (λ (xs : List Element). PutsRecords flat count (for_each element xs (element_matches side elements)) flat count)
      (sym (drop_of_length-le elements {i = element} (omega (arith, ready.counted)))) (puts_none flat count))

  module _ (below : element < n) where
    one_more : (elements : List Element) → RowsTell s rows n elements
        → left side elements element ≡ element_matches side elements element (element_at elements element) ++ left side elements (element + 1)
    unfolding for_each
    one_more elements ready =
        ap (λ (xs : List Element). for_each element xs (element_matches side elements)) (drop-cons elements element no_element (omega (arith, ready.counted)))
        ∙ rw (add-one element)

    lengths : (elements : List Element) → RowsTell s rows n elements
        → length (left side elements element) ≡ length (element_matches side elements element (element_at elements element)) + length
        (left side elements (element + 1))
    lengths elements ready =
        ap length (one_more elements ready) ∙ length-append (element_matches side elements element (element_at elements element))
        (left side elements (element + 1))

    -- there is room for the next,
    pub room-for-element : Room side s rows n element flat count
    room-for-element elements ready = omega (arith, turning.room elements ready, lengths elements ready)

    -- and once they are put, the others are left
    pub turning-more : {flat' : List ℕ} {count' : ℕ} → PutsElement side s rows n element flat count flat' count' → length flat' ≡ length flat
        → Turning side s rows n flat₀ flat' (element + 1) count'
    turning-more {flat'} {count'} puts same = record {
      within = omega arith;
      kept = same ∙ turning.kept;
      room = λ elements ready. omega (arith, turning.room elements ready, lengths elements ready, (puts elements ready).counted, same);
      goes_on = λ elements ready after end p.
          turning.goes_on elements ready after end
          (subst (λ (ms : List Match). PutsRecords flat count ms after end) (sym (one_more elements ready))
          (puts_then (element_matches side elements element (element_at elements element)) (left side elements (element + 1)) (puts elements ready) p));
    }
