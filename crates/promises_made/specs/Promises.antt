-- What is promised of a letter that is made. W-208: "What is written is accepted, its layout list has the entries in their order and no
-- others, and each content is the entry's text." A promise is a record, its fields are the clauses, and proofs/ has a value of each:
-- `reads` (proofs/Letters), `readable` and `answers` (proofs/Answering), `refuses` (proofs/Refusals).
use Rattle.std.specs.Prelude.{ℕ, ◌<◌, ◌≤◌, ◌≡◌, true, false, List, [], ◌∷◌, ◌++◌, map, length, take}
use Rattle.std.proofs.Math.Option.{some}
use Rattle.std.proofs.Math.ListN.{get_elem?}
use Rattle.headers.specs.Head.{is_in}
use Rattle.octets.specs.Walk.{stream_limit}
use Rattle.tree.specs.Tree.{tree_of}
use Rattle.normal.specs.Normal.{normal_form}
use Rattle.elements.specs.declared.Edition.{Edition}
use Rattle.elements.specs.ElementRows.{bytes_in}
use Rattle.letters.specs.Letter.{letter, letter_in}
use Rattle.reading.specs.declared.Side.TheVariants.{Layout, Logical}
use Rattle.reading.specs.Match.{matches}
use Rattle.answers.specs.Answers.{matches_in, handed, fetched, joined_in, onto}
use Rattle.making.specs.declared.Entry.{Entry}
use Rattle.making.specs.Entries.{Said, said_by, parts_inside, all_spelt, used, entry_refusal, fit, refused_entry, judge_entries}
use Rattle.making.specs.Stream.{letter_tree, stream_of}
use Rattle.promises_made.specs.Reads.{unit_element, elements_of, unit_at, matches_from, items_for}
use Rattle.making.specs.Answers.{not_made, made_of, made_output}

-- how the stream of entries that fit reads, in an edition
pub record Reads (edition : Edition) (said : List Said) : Type 0 where
  -- "What is written is accepted": by rules 1 to 15, with this header count and these elements
  pub accepted : letter_in edition (stream_of said) ≡ letter (items_for (length said)) (elements_of said)
  -- "lengths shortest": it is its own normal form, and its tree is the one that it was made of
  pub tree : tree_of (stream_of said) ≡ letter_tree said
  pub own_form : normal_form (stream_of said) ≡ stream_of said
  -- "its layout list has the entries in their order and no others"; the logical list has nothing
  pub layout : matches Layout (elements_of said) ≡ matches_from 0 (length said)
  pub logical : matches Logical (elements_of said) ≡ []
  -- "each content is the entry's text": the unit of entry k, and what it says
  pub unit : (k : ℕ) (x : Said) → get_elem? said k ≡ some x → get_elem? (elements_of said) (unit_at k) ≡ some (unit_element x)

-- the octets that were written
abbrev pub written_by : (buffer : List ℕ) → List Entry → (out : List ℕ) → List ℕ
written_by buffer entries out = take (made_of buffer entries out).length (made_output buffer entries out)

-- What stands in the output after an answer 0 reads as the entries, by the questions that are there.
pub record Readable (edition : Edition) (buffer : List ℕ) (entries : List Entry) (out : List ℕ) : Type 0 where
  pub accepted : letter_in edition (written_by buffer entries out)
      ≡ letter (items_for (length entries)) (elements_of (map (said_by buffer) entries))
  pub own_form : normal_form (written_by buffer entries out) ≡ written_by buffer entries out
  pub layout : matches_in edition Layout (written_by buffer entries out) ≡ matches_from 0 (length entries)
  pub logical : matches_in edition Logical (written_by buffer entries out) ≡ []
  pub text : (k : ℕ) (entry : Entry) → get_elem? entries k ≡ some entry
      → fetched edition (written_by buffer entries out) (unit_at k) ≡ handed (bytes_in buffer entry.text)
  pub joined : (k : ℕ) (entry : Entry) → get_elem? entries k ≡ some entry
      → joined_in edition (written_by buffer entries out) (unit_at k) ≡ handed (bytes_in buffer entry.text)

-- The refusal of one entry, after those that are done: "in this order: 27 .., 14 .., 15 .., 9 ..".
pub record EntryRefusedBy (buffer : List ℕ) (done : List Said) (entry : Entry) : Type 0 where
  pub outside : parts_inside buffer entry ≡ false → entry_refusal buffer done entry ≡ 27
  pub misspelt : parts_inside buffer entry ≡ true → all_spelt (said_by buffer entry) ≡ false → entry_refusal buffer done entry ≡ 14
  pub again : parts_inside buffer entry ≡ true → all_spelt (said_by buffer entry) ≡ true → used done (said_by buffer entry) ≡ true
      → entry_refusal buffer done entry ≡ 15
  pub many : parts_inside buffer entry ≡ true → all_spelt (said_by buffer entry) ≡ true → used done (said_by buffer entry) ≡ false
      → 2047 ≤ length done → entry_refusal buffer done entry ≡ 9
  pub fits : parts_inside buffer entry ≡ true → all_spelt (said_by buffer entry) ≡ true → used done (said_by buffer entry) ≡ false
      → length done < 2047 → entry_refusal buffer done entry ≡ 0

-- entry k is the first that is refused, and by this number
pub record FirstRefused (buffer : List ℕ) (entries : List Entry) (number k : ℕ) : Type 0 where
  pub before : List Said
  pub fit_before : judge_entries buffer (take k entries) ≡ fit before
  pub entry : Entry
  pub there : get_elem? entries k ≡ some entry
  pub by : entry_refusal buffer before entry ≡ number

-- What is promised of the refusals of entries.
pub record Refuses (buffer : List ℕ) : Type 0 where
  pub order : (done : List Said) (entry : Entry) → EntryRefusedBy buffer done entry
  -- a refusal is one of the four, at an entry
  pub told : (entries : List Entry) (number entry : ℕ) → judge_entries buffer entries ≡ refused_entry number entry
      → (is_in number (27 ∷ 14 ∷ 15 ∷ 9 ∷ []) ≡ true) × (entry < length entries)
  -- "entries in order, from 0": it is the first that is refused
  pub first : (entries : List Entry) (number entry : ℕ) → judge_entries buffer entries ≡ refused_entry number entry → FirstRefused buffer entries number entry
  -- entries that fit say what their parts hold
  pub says : (entries : List Entry) (said : List Said) → judge_entries buffer entries ≡ fit said → said ≡ map (said_by buffer) entries
  -- "9 where there would be over 4,096 elements": at entry 2,047 and at no other, if that passes 27, 14 and 15
  pub nine : (entries : List Entry) (entry : ℕ) → judge_entries buffer entries ≡ refused_entry 9 entry → entry ≡ 2047
  pub nine_given : (entries : List Entry) (said : List Said) → judge_entries buffer entries ≡ fit said → length entries ≡ 2047
      → (entry : Entry) (more : List Entry) → parts_inside buffer entry ≡ true → all_spelt (said_by buffer entry) ≡ true → used said (said_by buffer entry) ≡ false
      → judge_entries buffer (entries ++ entry ∷ more) ≡ refused_entry 9 2047
  pub at_most : (entries : List Entry) (said : List Said) → judge_entries buffer entries ≡ fit said → length entries ≤ 2047

-- What is promised of the answer and the output.
pub record Answers (buffer : List ℕ) (entries : List Entry) (out : List ℕ) : Type 0 where
  -- "place is the entry's number"
  pub refusal : (number entry : ℕ) → judge_entries buffer entries ≡ refused_entry number entry → made_of buffer entries out ≡ not_made number entry
  -- "then 17, then 18; .. 0 for the last two"
  pub over : (said : List Said) → judge_entries buffer entries ≡ fit said → stream_limit < length (stream_of said) → made_of buffer entries out ≡ not_made 17 0
  pub short : (said : List Said) → judge_entries buffer entries ≡ fit said → length (stream_of said) ≤ stream_limit → length out < length (stream_of said)
      → made_of buffer entries out ≡ not_made 18 0
  -- else the stream is written, and "Output past it stays"
  pub writes : (said : List Said) → judge_entries buffer entries ≡ fit said → length (stream_of said) ≤ stream_limit → length (stream_of said) ≤ length out
      → (made_of buffer entries out ≡ record { number = 0; place = 0; length = length (stream_of said) })
      × (made_output buffer entries out ≡ onto (stream_of said) out)
  -- "output untouched"
  pub untouched : ((made_of buffer entries out).number ≡ 0 → ⊥) → (made_output buffer entries out ≡ out) × ((made_of buffer entries out).length ≡ 0)
