-- The entries that a letter is made of, W-208: "a lent list of entries (identifier, portion, text, each a first and past in one lent
-- buffer)", and their refusals: "entries in order, from 0, and within one in this order: 27 .., 14 .., 15 .., 9 ..".
-- An entry is the code's own struct: a first and past for each of its parts. 17 and 18 are the answer's, not an entry's.
use Rattle.std.specs.Prelude.{ℕ, suc, ◌+◌, ◌*◌, ◌≡◌, Bool, true, cond, not, ◌&&◌, List, [], ◌∷◌, ◌++◌, map, eqb, leb, ltb, length}
use Rattle.names.specs.Names.{space_byte, longest_identifier, is_identifier, is_portion, same}
use Rattle.contents.specs.declared.Span.{Span}
use Rattle.portions.specs.Portions.{all, any}
use Rattle.elements.specs.ElementRows.{bytes_in}
use Rattle.elements.specs.Judge.{most_elements, first_of, ◌when◌}
use Rattle.making.specs.declared.Entry.{Entry}

-- what an entry says: the octets of its parts
pub record Said : Type 0 where
  pub identifier : List ℕ
  pub portion : List ℕ
  pub text : List ℕ

abbrev pub said_by : (buffer : List ℕ) → Entry → Said
said_by buffer entry = record {
  identifier = bytes_in buffer entry.identifier;
  portion = bytes_in buffer entry.portion;
  text = bytes_in buffer entry.text;
}

-- 27 "a part outside the buffer or ending before it begins"
abbrev pub inside : (buffer : List ℕ) → Span → Bool
inside buffer part = leb part.first part.past && leb part.past (length buffer)

unfoldable pub parts_inside : (buffer : List ℕ) → Entry → Bool
parts_inside buffer entry = all (inside buffer entry.identifier ∷ inside buffer entry.portion ∷ inside buffer entry.text ∷ [])

-- the unit identifier: "the element's identifier, one space, the portion"
abbrev pub unit_name : Said → List ℕ
unit_name said = said.identifier ++ space_byte ∷ said.portion

-- 14 "a bad identifier or portion or a unit identifier over 64 bytes"
unfoldable pub all_spelt : Said → Bool
all_spelt said =
    all (is_identifier said.identifier ∷ is_portion said.portion ∷ leb (length (unit_name said)) longest_identifier ∷ [])

-- what 14 leaves of an entry: its identifier, its portion and its unit identifier are well spelt
pub record Spelt (said : Said) : Type 0 where
  pub identifier : is_identifier said.identifier ≡ true
  pub portion : is_portion said.portion ≡ true
  pub unit : is_identifier (unit_name said) ≡ true

-- 15 "an identifier used before"
unfoldable pub used : (done : List Said) → Said → Bool
used done said = any (map (λ d. same d.identifier said.identifier) done)

-- 9 "where there would be over 4,096 elements": the profile, and two for each entry
abbrev pub elements_for : (entries : ℕ) → ℕ
elements_for entries = 1 + 2 * entries

-- the refusal of one entry, after those that are done: 0 is none
unfoldable pub entry_refusal : (buffer : List ℕ) → (done : List Said) → Entry → ℕ
entry_refusal buffer done entry =
    first_of ((27 when not (parts_inside buffer entry))
    ∷ (14 when not (all_spelt (said_by buffer entry)))
    ∷ (15 when used done (said_by buffer entry))
    ∷ (9 when ltb most_elements (elements_for (suc (length done))))
    ∷ [])

-- No entry is refused, and this is what they say; or the first that is refused, by a number.
pub data JudgedEntries : Type 0 where
  fit : List Said → JudgedEntries
  refused_entry : (number entry : ℕ) → JudgedEntries

-- "entries in order": those after the ones that are done
unfoldable pub judge_entries_from : (buffer : List ℕ) → (done : List Said) → List Entry → JudgedEntries
judge_entries_from buffer done [] = fit done
judge_entries_from buffer done (entry ∷ entries) =
    let n = entry_refusal buffer done entry in
    let more = judge_entries_from buffer (done ++ (said_by buffer entry ∷ [])) entries in
    cond (eqb n 0) more (refused_entry n (length done))

-- all entries, "from 0"
abbrev pub judge_entries : (buffer : List ℕ) → List Entry → JudgedEntries
judge_entries buffer entries = judge_entries_from buffer [] entries
