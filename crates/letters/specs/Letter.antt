-- The whole stream: refusals 1 to 15 in their order, the table of an accepted one, and what is promised of it. Document 01, "Numbers given
-- back": "Refusal 1 comes first. Then the whole stream is walked for 2 to 8 .. Then elements in order, 9 to 15 in order within each."
use Rattle.std.specs.Prelude.{ℕ, ◌≤◌, false, List, [], ◌∷◌, length, ◌≡◌, Ok, Err}
use Rattle.octets.specs.Told.{Outcome}
use Rattle.octets.specs.Walk.{Items, run, deepest, walk_of}
use Rattle.tree.specs.Tree.{tree_of}
use Rattle.contents.specs.declared.Span.{Span}
use Rattle.elements.specs.declared.Row.{Row}
use Rattle.elements.specs.declared.Edition.{Edition}
use Rattle.elements.specs.Judge.{accepted, judge, Element, Judged, refused}
use Rattle.elements.specs.ElementRows.{place_of, rows_of}
use Rattle.contents.specs.Search.{no_span}

-- the items of a stream, with their places
abbrev pub items_of_stream : List ℕ → Items
items_of_stream s = (run deepest s 0 (length s) false).items

-- A stream is a letter with what its elements say, or refused. The header count comes with either.
pub data Letter : Type 0 where
  letter : (headers : ℕ) → List Element → Letter
  refusal : (number place headers : ℕ) → Letter

-- numbers 9 to 15, after a walk that ended
abbrev pub after_walk : Items → (headers : ℕ) → Judged → Letter
after_walk items headers (accepted elements) = letter headers elements
after_walk items headers (refused number element) = refusal number (place_of element items) headers

abbrev pub by_walk : Edition → List ℕ → Outcome → Letter
by_walk edition s (Ok e) = after_walk (items_of_stream s) e.count (judge edition (tree_of s))
by_walk edition s (Err r) = refusal r.number r.place r.count

-- what a stream is by rules 1 to 15
unfoldable pub letter_in : Edition → List ℕ → Letter
letter_in edition s = by_walk edition s (walk_of s)

-- the rows of a stream that is a letter
abbrev pub rows_in : Edition → List ℕ → List Row
rows_in edition s = rows_of edition s (items_of_stream s)

-- "Elements meet end to end": the first row begins at from, each where the one before it ends, and the last ends at to
abbrev pub EndToEnd : (from to : ℕ) → List Row → Type 0
EndToEnd from to [] = from ≡ to
EndToEnd from to (row ∷ rows) = (row.whole.first ≡ from) × EndToEnd row.whole.past to rows

-- "Absent is 0 and 0"; any other pair bounds a value that lies in its element
pub data Within (from to : ℕ) (pair : Span) : Type 0 where
  not_there : pair ≡ no_span → Within from to pair
  present : from ≤ pair.first → pair.first ≤ pair.past → pair.past ≤ to → Within from to pair

-- every pair of a row lies in its element
pub record PairsWithin (row : Row) : Type 0 where
  pub identifier : Within row.whole.first row.whole.past row.identifier
  pub logical : Within row.whole.first row.whole.past row.logical
  pub portions : Within row.whole.first row.whole.past row.portions
  pub content : Within row.whole.first row.whole.past row.content
