-- Matches of small letters, those among them that were got wrong before: one table with one statement.
use mathlib.Core.Path.{◌≡◌, refl}
use mathlib.Core.List.{List, [], ◌∷◌, map}
use Prim.Native.Nat.{ℕ}
use Rattle.names.specs.Names.{same}
use Rattle.contents.specs.Search.{Value, absent, octets}
use Rattle.elements.specs.Judge.{single, Element}
use Rattle.reading.specs.declared.Match.{Match}
use Rattle.reading.specs.declared.Side.TheVariants.{Layout, Logical}
use Rattle.reading.specs.Match.{joins, for_each, portion_matches, element_matches, matches}

abbrev element : (kind : ℕ) → (identifier logical : Value) → List (List ℕ) → Element
element kind identifier logical portions =
    record { kind = kind; object = 255; identifier = identifier; logical = logical; portions = portions; content = single absent }

abbrev profile : Element
profile = element 0 absent absent []

-- an object or class, and a text unit
abbrev reads : (kind : ℕ) → List ℕ → List (List ℕ) → Element
reads kind identifier portions = element kind (octets identifier) absent portions

abbrev unit : Value → Value → Element
unit layout logical = element 3 layout logical []

abbrev gives : (e p u : ℕ) → Match
gives e p u = record { element = e; portion = p; unit = u }

pub record Example : Type 0 where
  pub elements : List Element
  pub layout : List Match
  pub logical : List Match

abbrev pub examples : List Example
examples =
    -- the hex lister's: "1 0 2" with portion "0", and the unit "1 0 2 0"
    record {
      elements =
          profile ∷ reads 2 (49 ∷ 32 ∷ 48 ∷ 32 ∷ 50 ∷ []) ((48 ∷ []) ∷ [])
          ∷ unit (octets (49 ∷ 32 ∷ 48 ∷ 32 ∷ 50 ∷ 32 ∷ 48 ∷ [])) absent ∷ [];
      layout = gives 1 0 2 ∷ [];
      logical = [];
    }
    -- "1 0" is no match of "1 0 2 0", by its portion "2" or "0"
    ∷ record {
      elements =
          profile ∷ reads 2 (49 ∷ 32 ∷ 48 ∷ []) ((50 ∷ []) ∷ (48 ∷ []) ∷ [])
          ∷ unit (octets (49 ∷ 32 ∷ 48 ∷ 32 ∷ 50 ∷ 32 ∷ 48 ∷ [])) absent ∷ [];
      layout = [];
      logical = [];
    }
    -- a class of the logical side, "3" with portions "0" and "1": units before and after it, one by its logical identifier, one with both
    ∷ record {
      elements =
          profile ∷ unit (octets (51 ∷ 32 ∷ 48 ∷ [])) (octets (51 ∷ 32 ∷ 49 ∷ [])) ∷ reads 5 (51 ∷ []) ((48 ∷ []) ∷ (49 ∷ []) ∷ [])
          ∷ unit absent (octets (51 ∷ 32 ∷ 48 ∷ [])) ∷ [];
      layout = [];
      logical = gives 2 0 3 ∷ gives 2 1 1 ∷ [];
    }
    -- "0 and 00 differ"
    ∷ record {
      elements = profile ∷ reads 1 (48 ∷ []) ((48 ∷ []) ∷ []) ∷ unit (octets (48 ∷ 32 ∷ 48 ∷ 48 ∷ [])) absent ∷ [];
      layout = [];
      logical = [];
    }
    ∷ []

pub as-listed : map (λ (e : Example). record {
  elements = e.elements;
  layout = matches Layout e.elements;
  logical = matches Logical e.elements;
}) examples ≡ examples
unfolding same joins for_each portion_matches element_matches matches
as-listed = refl
