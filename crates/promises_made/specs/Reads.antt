-- How the letter that is made reads: its elements, its matches, its header count. The theorems are in proofs/.
use Rattle.std.specs.Prelude.{ℕ, zero, suc, ◌+◌, ◌*◌, List, [], ◌∷◌}
use Rattle.contents.specs.Search.{absent, octets}
use Rattle.elements.specs.Judge.{single, Element, no_type}
use Rattle.reading.specs.declared.Match.{Match}
use Rattle.making.specs.Entries.{Said, unit_name}
use Rattle.making.specs.Stream.{block_object}

-- what the profile says: nothing
abbrev pub profile_element : Element
profile_element = record { kind = 0; object = no_type; identifier = absent; logical = absent; portions = []; content = single absent }

-- what the block of an entry says: the identifier and its one portion
abbrev pub block_element : Said → Element
block_element said = record {
  kind = 2;
  object = block_object;
  identifier = octets said.identifier;
  logical = absent;
  portions = said.portion ∷ [];
  content = single absent;
}

-- what the text unit of an entry says: the layout identifier and the text
abbrev pub unit_element : Said → Element
unit_element said = record {
  kind = 3;
  object = no_type;
  identifier = octets (unit_name said);
  logical = absent;
  portions = [];
  content = single (octets said.text);
}

unfoldable pub entry_elements : List Said → List Element
entry_elements [] = []
entry_elements (said ∷ more) = block_element said ∷ unit_element said ∷ entry_elements more

-- the elements of the letter
abbrev pub elements_of : List Said → List Element
elements_of said = profile_element ∷ entry_elements said

-- where the block and the unit of entry k stand among the elements
abbrev pub block_at : ℕ → ℕ
block_at k = 1 + 2 * k

abbrev pub unit_at : ℕ → ℕ
unit_at k = 2 + 2 * k

-- the match of entry k: its block, that block's first portion, its unit
abbrev pub match_of : ℕ → Match
match_of k = record { element = block_at k; portion = 0; unit = unit_at k }

-- "its layout list has the entries in their order and no others": one match for each of n entries, from entry k on
unfoldable pub matches_from : (k n : ℕ) → List Match
matches_from k zero = []
matches_from k (suc n) = match_of k ∷ matches_from (suc k) n

-- the items of an entry: A2, 02, 31, 41, A1 and 12; A3, 31, 40 and 04
abbrev pub items_for : (entries : ℕ) → ℕ
items_for entries = 1 + 10 * entries
