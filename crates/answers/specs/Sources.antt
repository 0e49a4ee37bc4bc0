-- Where each octet on the screen stands: for each line of the whole reading of a side, in order, the places in the stream of its pieces, "a record of three
-- numbers for each piece that has octets: the line, first and past in the stream". It is our own question, which a viewer puts to show a letter beside its
-- octets. It is refused by 1 to 15, and then by 31, "list shorter than the records", at place 0. No table is lent, so there is no 16; a refusal leaves the
-- list as it was, and has no counts.
use Rattle.std.specs.Prelude.{◌≡◌, cond, List, ℕ, ◌/◌, eqb, ltb, length}
use Rattle.elements.specs.declared.Edition.{Edition}
use Rattle.letters.specs.Letter.{Letter, letter, refusal, letter_in}
use Rattle.reading.specs.declared.Side.{Side}
use Rattle.reading.specs.Match.{matches}
use Rattle.sources.specs.Sources.{Source, sources_in, source_width, source_numbers}
use Rattle.answers.specs.declared.Sourced.{Sourced}
use Rattle.answers.specs.Answers.{onto}

-- how many records are lent; an incomplete last one isn't used
abbrev pub sources_lent : (list : List ℕ) → ℕ
sources_lent list = length list / source_width

-- a refusal has no lines and no records
abbrev pub unsourced : (number place : ℕ) → Sourced
unsourced number place = record { number = number; place = place; lines = 0; sources = 0 }

-- the answer, by what the stream is, the records of the side, and how many are lent
abbrev pub sourced_by : Side → Letter → List Source → (lent : ℕ) → Sourced
sourced_by side (refusal number place headers) sources lent = unsourced number place
sourced_by side (letter headers elements) sources lent =
    cond (ltb lent (length sources)) (unsourced 31 0)
    (record { number = 0; place = 0; lines = length (matches side elements); sources = length sources })

unfoldable pub sourced : Edition → Side → (s list : List ℕ) → Sourced
sourced edition side s list = sourced_by side (letter_in edition s) (sources_in edition side s) (sources_lent list)

-- the list at exit: what is past the records stays
unfoldable pub sourced_list : Edition → Side → (s list : List ℕ) → List ℕ
sourced_list edition side s list = cond (eqb (sourced edition side s list).number 0) (onto (source_numbers (sources_in edition side s)) list) list

-- the contract of the question: its answer, and the list at exit
pub record SourcesOutcome (edition : Edition) (side : Side) (s list : List ℕ) (answer : Sourced) (list_after : List ℕ) : Type 0 where
  pub answered : answer ≡ sourced edition side s list
  pub filled : list_after ≡ sourced_list edition side s list
