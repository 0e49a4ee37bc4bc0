-- What the judge of a stream gives, and what the scratch then holds: `LetterRows` is what all that is asked of the rows of a letter is asked by. Who looks
-- names up asks besides that the rows are filed in the index it is lent (`Filed`, and of both names `BothFiled`).
use Rattle.std.specs.Prelude.{◌≡◌, List, ℕ, Result, Ok, Err}
use Rattle.headers.specs.declared.Refusal.{Refusal}
use Rattle.elements.specs.declared.Edition.{Edition}
use Rattle.elements.specs.Judge.{Element, accepted, refused, judge}
use Rattle.elements.specs.ElementRows.{place_of}
use Rattle.tree.specs.Tree.{tree_of}
use Rattle.rows.specs.Index.{BothFiled}
use Rattle.judging.specs.Done.{DoneRows}
use Rattle.letters.specs.Letter.{items_of_stream, rows_in}

-- the scratch holds the rows of a letter: the stream was judged and accepted, and these are its elements
pub record LetterRows (edition : Edition) (s scratch : List ℕ) (count : ℕ) : Type 0 where
  pub elements : List Element
  pub judged : judge edition (tree_of s) ≡ accepted elements
  pub holds : DoneRows s scratch count (rows_in edition s) elements

-- the element at which a stream is refused
pub record Stopped (edition : Edition) (s : List ℕ) (number place : ℕ) : Type 0 where
  pub element : ℕ
  pub judged : judge edition (tree_of s) ≡ refused number element
  pub placed : place ≡ place_of element (items_of_stream s)

-- what the judge of a stream gives: the rows of a letter, which either of their names finds, or a refusal
abbrev pub GivesVerdict : Edition → (s scratch index : List ℕ) → Result ℕ Refusal → Type 0
GivesVerdict edition s scratch index (Ok count) = LetterRows edition s scratch count × BothFiled s scratch index count
GivesVerdict edition s scratch index (Err refusal) = Stopped edition s refusal.number refusal.place
