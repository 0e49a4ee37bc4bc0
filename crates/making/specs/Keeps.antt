-- What scratch keeps for 15, so that an identifier used before is found by the index: a row for each entry that is done, of the kind of a
-- block, with the bounds of its identifier. The other numbers of a row are free.
use Rattle.std.specs.Prelude.{ℕ, ◌+◌, ◌*◌, ◌/◌, ◌<◌, ◌≤◌, ◌≡◌, Bool, true, false, List, [], ◌∷◌, ◌++◌, length, Option, Some, None, Result, Ok, Err}
use Rattle.std.proofs.Math.Option.{some}
use Rattle.std.proofs.Math.ListN.{get_elem?}
use Rattle.names.specs.Hash.{hash}
use Rattle.contents.specs.declared.Span.{Span}
use Rattle.rows.specs.Rows.{scratch_width}
use Rattle.rows.specs.Columns.{identifier_column, kind_at, value_at, Bounded}
use Rattle.rows.specs.Index.{links_of, Filed, Unused}
use Rattle.elements.specs.ElementRows.{bytes_in}
use Rattle.making.specs.declared.Entry.{Entry}
use Rattle.making.specs.Entries.{Said, Spelt, said_by, used, entry_refusal}
use Rattle.making.specs.Flat.{entry_width}
use Rattle.making.specs.Lent.{EntryLies}

-- the kind of a block, and the name space of that kind
abbrev pub block_kind : ℕ
block_kind = 2

abbrev pub block_space : ℕ
block_space = 1

-- n entries are done, and scratch has their rows
pub record Keeps (buffer rows index : List ℕ) (n : ℕ) (done : List Said) : Type 0 where
  pub counted : length done ≡ n
  pub bounded : Bounded buffer rows identifier_column n
  pub filed : Filed buffer rows identifier_column index n
  pub kinds : (j : ℕ) → j < n → kind_at rows j ≡ block_kind
  pub values : (j : ℕ) (x : Said) → get_elem? done j ≡ some x → value_at buffer rows identifier_column j ≡ x.identifier

-- whether a look-up found something
abbrev pub is_found : Option ℕ → Bool
is_found (Some j) = true
is_found None = false

-- what 15 is told of an identifier, whichever entries scratch keeps
abbrev pub TellsUsed : (buffer rows index : List ℕ) (n : ℕ) → Span → Bool → Type 0
TellsUsed buffer rows index n identifier told =
    (done : List Said) (said : Said) → Keeps buffer rows index n done → Spelt said → said.identifier ≡ bytes_in buffer identifier → told ≡ used done said

-- an entry that is refused by no rule
pub record Passes (buffer : List ℕ) (n : ℕ) (entry : Entry) (hashed : ℕ) : Type 0 where
  pub lies : EntryLies buffer entry
  pub few : n < 2047
  pub hash_is : hashed ≡ hash (bytes_in buffer entry.identifier)

-- the number of a refusal by the rules, 0 if there is none
abbrev pub ruled_by : Result ℕ ℕ → ℕ
ruled_by (Ok hashed) = 0
ruled_by (Err number) = number

-- what the rules make of entry n, whichever entries scratch keeps: the hash of its identifier, or the number of its refusal, which is not 0
pub record Rules (buffer rows index : List ℕ) (n : ℕ) (entry : Entry) (ruled : Result ℕ ℕ) : Type 0 where
  pub number_is : (done : List Said) → Keeps buffer rows index n done → ruled_by ruled ≡ entry_refusal buffer done entry
  pub passes : (hashed : ℕ) → ruled ≡ Ok hashed → Passes buffer n entry hashed
  pub refuses : (number : ℕ) → ruled ≡ Err number → number ≡ 0 → ⊥

-- scratch keeps an entry more, whichever it kept
abbrev pub KeepsOn : (buffer rows index : List ℕ) (n first past : ℕ) (rows' index' : List ℕ) → Type 0
KeepsOn buffer rows index n first past rows' index' =
    (done : List Said) (entry : Entry) → Keeps buffer rows index n done → entry.identifier.first ≡ first → entry.identifier.past ≡ past
    → Keeps buffer rows' index' (n + 1) (done ++ (said_by buffer entry ∷ []))

-- what is lent for it: an index with no row in it, and room for the rows and links of as many entries as fit
pub record Roomy (numbers rows index : List ℕ) : Type 0 where
  pub unused : Unused index
  pub some_links : 0 < length (links_of index)
  pub rows_fit : (k : ℕ) → k < length numbers / entry_width → k < 2047 → k * scratch_width + scratch_width ≤ length rows
  pub links_fit : (k : ℕ) → k < length numbers / entry_width → k < 2047 → k + 1 < length (links_of index)
