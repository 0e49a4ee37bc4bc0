-- What an edition has to say of the three elements of a letter that is made: all that the theorems know of an edition and its shapes. That
-- both editions say so is `takes` (proofs/Shapes).
use Rattle.std.specs.Prelude.{ℕ, ◌≡◌, true, List}
use Rattle.tree.specs.Tree.{Tree, empty}
use Rattle.contents.specs.Search.{is}
use Rattle.elements.specs.declared.Edition.{Edition}
use Rattle.elements.specs.Shape.{shape_of}
use Rattle.elements.specs.Judge.{Element, element_of}
use Rattle.elements.specs.ShapeRefusal.{shape_refusal}
use Rattle.making.specs.Entries.{Said, Spelt}
use Rattle.making.specs.Stream.{profile_type, block_type, block_run, unit_type, unit_run}
use Rattle.promises_made.specs.Reads.{profile_element, block_element, unit_element}

-- the edition knows the type field, finds nothing by 10 and 12 to 14, and reads the element
pub record Takes (edition : Edition) (type : List ℕ) (run : Tree) (element : Element) : Type 0 where
  pub known : is (shape_of edition type).octet type ≡ true
  pub passes : shape_refusal (shape_of edition type) run ≡ 0
  pub says : element_of (shape_of edition type) run ≡ element

-- it does so for the profile, a block and a text unit
pub record TakesAll (edition : Edition) : Type 0 where
  pub profile : Takes edition profile_type empty profile_element
  pub block : (said : Said) → Spelt said → Takes edition block_type (block_run said) (block_element said)
  pub unit : (said : Said) → Spelt said → Takes edition unit_type (unit_run said) (unit_element said)
