-- What the work behind the questions learns: of a stream that was judged, and of a content that was fetched or copied.
use Rattle.std.specs.Prelude.{◌≡◌, cond, List, [], ℕ, ◌*◌, ◌≤◌, eqb, length, Result, Ok, Err, Option, Some, None}
use Rattle.std.proofs.Math.Seq.{slice}
use Rattle.octets.specs.Told.{Outcome}
use Rattle.octets.specs.Walk.{stream_limit, walk_of}
use Rattle.runs.specs.Runs.{tree_in, Fine}
use Rattle.rows.specs.Columns.{kind_at}
use Rattle.pieces.specs.Pieces.{joined}
use Rattle.normal.specs.Writes.{Answer}
use Rattle.letters.specs.declared.Held.{Held}
use Rattle.letters.specs.declared.Held.TheVariants.{Part, Pieces}
use Rattle.letters.specs.Lent.{rows_needed}
use Rattle.elements.specs.declared.Edition.{Edition}
use Rattle.letters.specs.Content.{HoldsElement}
use Rattle.reading.specs.declared.Side.{Side}
use Rattle.reading.specs.Match.{unit_kind}
use Rattle.reading.specs.Records.{records}
use Rattle.answers.specs.declared.Written.{Written}
use Rattle.answers.specs.declared.Reason.{Reason}
use Rattle.answers.specs.declared.Copied.{Copied}
use Rattle.answers.specs.declared.Listed.{Listed}
use Rattle.answers.specs.declared.Found.{Found}
use Rattle.answers.specs.declared.Question.{Question}
use Rattle.answers.specs.Questions.{Roomy}
use Rattle.answers.specs.Answers.{ruled, listed, listed_table, matches_in, onto, Fetched, handed, withheld, located, Stands, joined_in, copied_from}

-- what is found of the element in row j: nothing if it is no text unit, or where its content stands
pub data ContentAt (edition : Edition) (s rows : List ℕ) (j : ℕ) : Option Held → Type 0 where
  other_kind : (kind_at rows j ≡ unit_kind → ⊥) → ContentAt edition s rows j None
  held_there : {held : Held} → kind_at rows j ≡ unit_kind → HoldsElement edition s j held → ContentAt edition s rows j (Some held)

-- the number, place and length that document 01 gives each case of the writer's answer
abbrev pub written_as : Answer → Written
written_as (Ok length) = record { number = 0; place = 0; length = length }
written_as (Err refusal) = record { number = refusal.number; place = refusal.place; length = 0 }

-- what the rules say of a stream: nothing against it, or a refusal, which has a number
abbrev pub RulesSay : Edition → (s : List ℕ) → Result (Unit {0}) Reason → Type 0
RulesSay edition s (Ok none) = (ruled edition s).number ≡ 0
RulesSay edition s (Err why) = (why ≡ ruled edition s) × (why.number ≡ 0 → ⊥)

-- the bounds of a refused fetch
abbrev pub nowhere : (number place : ℕ) → Found
nowhere number place = record { number = number; place = place; first = 0; past = 0 }

-- the number, place and bounds that document 01 gives each case of a fetch
abbrev pub told_of : Option Held → Found
told_of None = nowhere 20 0
told_of (Some (Part first past)) = record { number = 0; place = 0; first = first; past = past }
told_of (Some (Pieces run)) = nowhere 21 0

-- the joined content in each case, before it is known whether there is room for it
abbrev pub joined_of : (s : List ℕ) → Option Held → Fetched
joined_of s None = withheld 20 0
joined_of s (Some (Part first past)) = handed (slice first past s)
joined_of s (Some (Pieces run)) = handed (joined (tree_in s run))

-- what else is known in each case: pieces can be met one after another
abbrev pub Known : (s : List ℕ) → Option Held → Type 0
Known s None = Unit {0}
Known s (Some (Part first past)) = Unit {0}
Known s (Some (Pieces run)) = Fine s run

-- the answer in bounds, with what `odif::content` needs to hand the part back; crate promises has that it holds of every stream (`located_stands`)
pub record Fetches (edition : Edition) (s : List ℕ) (asked : ℕ) (told : Found) : Type 0 where
  pub answered : told ≡ located edition s asked
  pub stands : Stands edition s asked told.first told.past

-- what is fetched, in numbers that fit 32 bits
pub record FindsContent (edition : Edition) (s : List ℕ) (asked : ℕ) (found : Option Held) : Type 0 where
  pub fetches : Fetches edition s asked (told_of found)
  pub joins : joined_in edition s asked ≡ joined_of s found
  pub known : Known s found
  pub near_past : (told_of found).past ≤ stream_limit
  pub short : length (joined_of s found).part ≤ stream_limit

-- octets are copied to a lent buffer, unless it is too short
pub record Copies (content out : List ℕ) (answer : Copied) (out_after : List ℕ) : Type 0 where
  pub answered : answer ≡ copied_from (handed content) out
  pub put : out_after ≡ cond (eqb answer.number 0) (onto content out) out

-- how many rows a stream can need after its walk: none if the walk refused it
abbrev pub rows_after : Outcome → (s : List ℕ) → ℕ
rows_after (Ok end) s = rows_needed s
rows_after (Err fault) s = 0

-- a stream was walked with this outcome, and can need no more rows than so many
pub record Sized (s : List ℕ) (walked : Outcome) (most : ℕ) : Type 0 where
  pub outcome : walk_of s ≡ walked
  pub enough : rows_after walked s ≤ most

-- a question has the room that it wants, of a stream that the walk passed
abbrev pub RoomyAfter : Outcome → Question → (s : List ℕ) → (numbers : ℕ) → Type 0
RoomyAfter (Ok end) question s numbers = Roomy question s numbers
RoomyAfter (Err fault) question s numbers = Unit {0}

-- the reading list as numbers, three a record: as many as are answered, all matches if the number is 0
pub record ListsFlat (edition : Edition) (side : Side) (s table : List ℕ) (room : ℕ) (answer : Listed) (table_after flat : List ℕ) : Type 0 where
  pub answered : answer ≡ listed edition side s table room
  pub tabled : table_after ≡ listed_table edition side s table room
  pub stored : records flat answer.matches ≡ cond (eqb answer.number 0) (matches_in edition side s) []
  pub fits : 3 * answer.matches ≤ length flat
  pub enough : answer.matches ≤ room
