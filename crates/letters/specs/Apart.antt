-- What is known of the elements of an accepted letter beside one another. Document 01, "Element rules".
use Rattle.std.specs.Prelude.{◌≡◌, false, true, List, ℕ, ◌≤◌, ◌<◌, length}
use Rattle.std.proofs.Math.Option.{some}
use Rattle.std.proofs.Math.ListN.{get_elem?}
use Rattle.portions.specs.Portions.{repeats}
use Rattle.elements.specs.Judge.{Element, most_elements, clash, names_fit}

-- "No two classes or objects share an identifier, no two styles, no two units a layout identifier, no two units a logical identifier,
-- and no element lists a portion twice"; all are well spelt, and at most 4,096
pub record Apart (elements : List Element) : Type 0 where
  pub few : length elements ≤ most_elements
  pub apart : (i j : ℕ) (d e : Element) → i < j → get_elem? elements i ≡ some d → get_elem? elements j ≡ some e → clash d e ≡ false
  pub once : (j : ℕ) (e : Element) → get_elem? elements j ≡ some e → repeats e.portions ≡ false
  pub spelt : (j : ℕ) (e : Element) → get_elem? elements j ≡ some e → names_fit e ≡ true
