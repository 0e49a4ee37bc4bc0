-- The three demands, over the definitions of what the questions answer (crate answers, specs/Answers): the first page of what is promised.
-- A demand is a record, its fields are the demand's clauses, and proofs/ has a value of each.
use Rattle.std.specs.Prelude.{◌≡◌, ◌⊎◌, ◌↔◌, true, List, [], ◌∷◌, ℕ, suc, ◌+◌, ◌-◌, ◌<◌, ◌≤◌, length}
use Rattle.std.proofs.Math.Option.{some}
use Rattle.std.proofs.Math.ListN.{get_elem?}
use Rattle.headers.specs.Head.{is_in}
use Rattle.octets.specs.Walk.{count, stream_limit, deepest}
use Rattle.tree.specs.Tree.{Tree, empty, leaf, branch, tree_of, Codes}
use Rattle.normal.specs.Normal.{normal_form}
use Rattle.contents.specs.declared.Span.{Span}
use Rattle.contents.specs.Search.{Value, absent, octets, no_span}
use Rattle.elements.specs.ElementRows.{bytes_in}
use Rattle.elements.specs.declared.Row.{Row}
use Rattle.elements.specs.declared.Edition.{Edition}
use Rattle.elements.specs.Judge.{body_of, portions_octet, amount_at, bytes_of, Content, single, in_pieces, joined_content, Element, accepted, judge}
use Rattle.letters.specs.Letter.{letter, refusal, items_of_stream, EndToEnd, PairsWithin, letter_in, rows_in}
use Rattle.reading.specs.declared.Match.{Match}
use Rattle.reading.specs.declared.Side.{Side}
use Rattle.reading.specs.Match.{unit_kind, IsMatch, Before, units, portions_on}
use Rattle.answers.specs.Table.{rows_lent}
use Rattle.answers.specs.Answers.{onto, table_of, refused_check, checked, checked_table, written, written_output, listed, listed_table, matches_in}
use Rattle.answers.specs.Answers.{listed_list, handed, withheld, fetched, located, Stands, joined_in, copied, copied_output}
use Rattle.promises.specs.Refusals.{TopItem, top_items, contents_in, RefusedWith}

-- A number that a question may give, and its place: 0, one of 1 to 15, or one of the question's own, "where the question can give it". The
-- place lies in the stream; it is 0 with 0 and from 16 on.
pub record Answered (s : List ℕ) (own : List ℕ) (number place : ℕ) : Type 0 where
  pub one_of : (number ≤ 15) ⊎ (is_in number own ≡ true)
  pub inside : place ≤ length s
  pub at_start : (number ≡ 0) ⊎ (15 < number) → place ≡ 0

-- Demand 1: every stream gets an answer, and a refusal leaves what was lent as it was.
pub record Demand1 (edition : Edition) : Type 0 where
  -- "Only the check and the list use the table and can give 16."
  pub check_told : (s table : List ℕ) → Answered s (16 ∷ []) (checked edition s table).number (checked edition s table).place
  pub normal_told : (s out : List ℕ) → Answered s (17 ∷ 18 ∷ []) (written edition s out).number (written edition s out).place
  pub list_told : (side : Side) (s table : List ℕ) (room : ℕ)
      → Answered s (16 ∷ 19 ∷ []) (listed edition side s table room).number (listed edition side s table room).place
  pub content_told : (s : List ℕ) (asked : ℕ) → Answered s (20 ∷ 21 ∷ []) (fetched edition s asked).number (fetched edition s asked).place
  pub joined_told : (s : List ℕ) (asked : ℕ) (out : List ℕ) → Answered s (20 ∷ 22 ∷ []) (copied edition s asked out).number (copied edition s asked out).place
  -- "the header count is the number of items that passed 2 to 8, at most half the stream's bytes .. After 1 it is 0"
  pub headers : (s table : List ℕ) → length s ≤ stream_limit → (checked edition s table).headers ≡ count (items_of_stream s)
  pub headers_half : (s table : List ℕ) → (checked edition s table).headers + (checked edition s table).headers ≤ length s
  pub headers_after_1 : (s table : List ℕ) → stream_limit < length s → (checked edition s table).headers ≡ 0
  -- "With a refusal these are 0, but 19 keeps the element count."
  pub check_counts : (s table : List ℕ) → ((checked edition s table).number ≡ 0 → ⊥) → (checked edition s table).elements ≡ 0
  pub normal_counts : (s out : List ℕ) → ((written edition s out).number ≡ 0 → ⊥) → (written edition s out).length ≡ 0
  pub list_counts : (side : Side) (s table : List ℕ) (room : ℕ) → ((listed edition side s table room).number ≡ 0 → ⊥)
      → ((listed edition side s table room).matches ≡ 0) × (((listed edition side s table room).number ≡ 19 → ⊥) → (listed edition side s table room).elements ≡ 0)
  -- "gives its length, 0 if refused"
  pub joined_counts : (s : List ℕ) (asked : ℕ) (out : List ℕ) → ((copied edition s asked out).number ≡ 0 → ⊥) → (copied edition s asked out).length ≡ 0
  -- "A refusal leaves the lent table, list and output untouched, except that 19 leaves the finished table."
  pub check_untouched : (s table : List ℕ) → ((checked edition s table).number ≡ 0 → ⊥) → checked_table edition s table ≡ table
  pub normal_untouched : (s out : List ℕ) → ((written edition s out).number ≡ 0 → ⊥) → written_output edition s out ≡ out
  pub list_untouched : (side : Side) (s table : List ℕ) (list : List Match) → ((listed edition side s table (length list)).number ≡ 0 → ⊥)
      → listed_list edition side s table list ≡ list
  pub list_table_untouched : (side : Side) (s table : List ℕ) (room : ℕ) → ((listed edition side s table room).number ≡ 0 → ⊥)
      → ((listed edition side s table room).number ≡ 19 → ⊥) → listed_table edition side s table room ≡ table
  pub list_table_finished : (side : Side) (s table : List ℕ) (room : ℕ) → (listed edition side s table room).number ≡ 19
      → listed_table edition side s table room ≡ table_of edition s table
  pub joined_untouched : (s : List ℕ) (asked : ℕ) (out : List ℕ) → ((copied edition s asked out).number ≡ 0 → ⊥) → copied_output edition s asked out ≡ out
  -- "a refused fetch gives an empty part"
  pub content_empty : (s : List ℕ) (asked : ℕ) → ((fetched edition s asked).number ≡ 0 → ⊥) → (fetched edition s asked).part ≡ []

-- how many items a tree has, at any level
abbrev pub item_count : Tree → ℕ
item_count empty = 0
item_count (leaf type value after) = suc (item_count after)
item_count (branch type inside after) = suc (item_count inside + item_count after)

-- what it is to be a letter: X.209 says that its octets code a tree of items, and the element shapes that its elements are these
pub record IsLetterOf (edition : Edition) (s : List ℕ) (headers : ℕ) (elements : List Element) : Type 0 where
  pub tree : Tree
  pub coded : Codes deepest tree s
  pub within : length s ≤ stream_limit
  pub shaped : judge edition tree ≡ accepted elements
  pub counted : headers ≡ item_count tree

-- a stream that is accepted by rules 1 to 15
pub record IsAccepted (edition : Edition) (s : List ℕ) : Type 0 where
  pub headers : ℕ
  pub elements : List Element
  pub judged : letter_in edition s ≡ letter headers elements

-- the levels that are left for pieces: an element stands at level 1, the 24 or 30 at level 2, and "level 16 is the deepest"
abbrev pub piece_levels : ℕ
piece_levels = deepest - 2

-- a pair of a row tells a value: "Absent is 0 and 0"; any other bounds its octets, and ends past 0
abbrev pub TellsValue : List ℕ → Span → Value → Type 0
TellsValue s pair absent = pair ≡ no_span
TellsValue s pair (octets bytes) = (bytes_in s pair ≡ bytes) × (0 < pair.past)

-- the content fields bound the value of one item; or, if the content is in pieces, octets that code the pieces
abbrev pub TellsContent : List ℕ → Span → Content → Type 0
TellsContent s pair (single value) = TellsValue s pair value
TellsContent s pair (in_pieces run) = Codes piece_levels run (bytes_in s pair) × (0 < pair.past)

-- "portions, every item in it 12": the items of a list of portions
abbrev pub portion_items : List (List ℕ) → Tree
portion_items [] = empty
portion_items (portion ∷ portions) = leaf (0x12 ∷ []) portion (portion_items portions)

-- an element has no item for portions, which is more than that it lists none
abbrev pub NoPortions : Edition → TopItem → Type 0
NoPortions edition item = let contents = contents_in edition item in amount_at (portions_octet contents) (body_of contents item.run) ≡ 0

-- octets code one item, this one, and nothing else
abbrev pub CodesAlone : TopItem → List ℕ → Type 0
CodesAlone item coding = (t : Tree) × Codes deepest t coding × (top_items t ≡ item ∷ [])

-- a row tells what its element says: its kind and object type, and octets of the stream
pub record RowTells (edition : Edition) (s : List ℕ) (row : Row) (item : TopItem) (element : Element) : Type 0 where
  pub kind : row.kind ≡ element.kind
  pub object : row.object ≡ element.object
  -- the element's own pair bounds octets that code the element
  pub whole : CodesAlone item (bytes_in s row.whole)
  pub identifier : TellsValue s row.identifier element.identifier
  pub logical : TellsValue s row.logical element.logical
  -- "the portions' value": one item 12 after another, of which each has a portion number
  pub portions : Codes 1 (portion_items element.portions) (bytes_in s row.portions)
  pub no_portions : (row.portions ≡ no_span) ↔ NoPortions edition item
  pub content : TellsContent s row.content element.content

-- element j is a text unit
pub record UnitAt (elements : List Element) (j : ℕ) (unit : Element) : Type 0 where
  pub there : get_elem? elements j ≡ some unit
  pub kind : unit.kind ≡ unit_kind

-- element j is a text unit with content in pieces
pub record PiecesAt (elements : List Element) (j : ℕ) : Type 0 where
  pub unit : Element
  pub is_unit : UnitAt elements j unit
  pub run : Tree
  pub content : unit.content ≡ in_pieces run

-- Demand 2, of a letter with these headers and elements.
pub record OfLetter (edition : Edition) (s : List ℕ) (headers : ℕ) (elements : List Element) : Type 0 where
  -- its tree of items is the one that X.209 says its octets code
  pub coded : Codes deepest (tree_of s) s
  -- the check accepts it, if the table has rows enough
  pub checks : (table : List ℕ) → length elements ≤ rows_lent table
      → (checked edition s table ≡ record { number = 0; place = 0; headers = headers; elements = length elements })
      × (checked_table edition s table ≡ table_of edition s table)
  pub checks_16 : (table : List ℕ) → ((checked edition s table).number ≡ 16) ↔ (rows_lent table < length elements)
  -- "Elements meet end to end from 0 to the stream's length."; every pair lies in its element; a row for each element, which tells what it says
  pub end_to_end : EndToEnd 0 (length s) (rows_in edition s)
  pub pairs_within : (j : ℕ) (row : Row) → get_elem? (rows_in edition s) j ≡ some row → PairsWithin row
  pub rows_counted : length (rows_in edition s) ≡ length elements
  pub tops_counted : length (top_items (tree_of s)) ≡ length elements
  pub rows_tell : (j : ℕ) (row : Row) (item : TopItem) (element : Element) → get_elem? (rows_in edition s) j ≡ some row
      → get_elem? (top_items (tree_of s)) j ≡ some item → get_elem? elements j ≡ some element → RowTells edition s row item element
  -- "The part question still serves 04": the part is what the 04 says; it is refused by 20 of what is no text unit, and by 21 of pieces
  pub content : (j : ℕ) (unit : Element) → UnitAt elements j unit → (value : Value) → unit.content ≡ single value
      → fetched edition s j ≡ handed (bytes_of value)
  pub content_20 : (j : ℕ) → ((fetched edition s j).number ≡ 20) ↔ ((unit : Element) → UnitAt elements j unit → ⊥)
  pub content_21 : (j : ℕ) → ((fetched edition s j).number ≡ 21) ↔ PiecesAt elements j
  -- the joined content of a text unit is copied, unless the buffer is shorter, 22; the value that the row bounds is never shorter
  pub joins : (j : ℕ) (unit : Element) → UnitAt elements j unit → (out : List ℕ) → length (joined_content unit.content) ≤ length out
      → (copied edition s j out ≡ record { number = 0; place = 0; length = length (joined_content unit.content) })
      × (copied_output edition s j out ≡ onto (joined_content unit.content) out)
  pub joins_20 : (j : ℕ) (out : List ℕ) → ((copied edition s j out).number ≡ 20) ↔ ((unit : Element) → UnitAt elements j unit → ⊥)
  pub joins_22 : (j : ℕ) (unit : Element) → UnitAt elements j unit → (out : List ℕ)
      → ((copied edition s j out).number ≡ 22) ↔ (length out < length (joined_content unit.content))
  pub joins_within : (j : ℕ) (unit : Element) → UnitAt elements j unit → (row : Row) → get_elem? (rows_in edition s) j ≡ some row
      → length (joined_content unit.content) ≤ length (bytes_in s row.content)
  -- "a 04 being one piece": where there is a part, it is the joined content
  pub part_joined : (j : ℕ) → (fetched edition s j).number ≡ 0 → joined_in edition s j ≡ fetched edition s j
  -- the normal form is written, unless it passes the limit, 17, or else the output, 18
  pub writes : (out : List ℕ) → length (normal_form s) ≤ stream_limit → length (normal_form s) ≤ length out
      → (written edition s out ≡ record { number = 0; place = 0; length = length (normal_form s) }) × (written_output edition s out ≡ onto (normal_form s) out)
  pub writes_17 : (out : List ℕ) → ((written edition s out).number ≡ 17) ↔ (stream_limit < length (normal_form s))
  pub writes_18 : (out : List ℕ) → ((written edition s out).number ≡ 18) ↔ ((length (normal_form s) ≤ stream_limit) × (length out < length (normal_form s)))
  -- and it is accepted by every rule, with the same header count, elements and tree, so that its rows tell the same of the same elements
  -- (specs/Kept says it row by row)
  pub normal_accepted : length (normal_form s) ≤ stream_limit → letter_in edition (normal_form s) ≡ letter headers elements
  pub normal_tree : tree_of (normal_form s) ≡ tree_of s
  pub normal_coded : Codes deepest (tree_of s) (normal_form s)

-- a stream that is refused by one of 1 to 15 gets that number and place from every question
pub record RefusedByAll (edition : Edition) (s : List ℕ) (number place headers : ℕ) : Type 0 where
  pub check : (table : List ℕ) → checked edition s table ≡ refused_check number place headers
  pub normal : (out : List ℕ) → written edition s out ≡ record { number = number; place = place; length = 0 }
  pub list : (side : Side) (table : List ℕ) (room : ℕ) → listed edition side s table room ≡ record { number = number; place = place; elements = 0; matches = 0 }
  pub content : (asked : ℕ) → fetched edition s asked ≡ withheld number place
  pub joined : (asked : ℕ) (out : List ℕ) → copied edition s asked out ≡ record { number = number; place = place; length = 0 }

-- Demand 2: accepted is what X.209 and the shapes say, and what is accepted is kept by the normal form. What is refused is refused by the
-- first of 1 to 15 whose condition holds.
pub record Demand2 (edition : Edition) : Type 0 where
  pub accepted_is : (s : List ℕ) (headers : ℕ) (elements : List Element)
      → (letter_in edition s ≡ letter headers elements) ↔ IsLetterOf edition s headers elements
  pub refused_is : (s : List ℕ) (number place : ℕ) → ((headers : ℕ) × (letter_in edition s ≡ refusal number place headers)) ↔ RefusedWith edition s number place
  pub refused_alike : (s : List ℕ) (number place headers : ℕ) → letter_in edition s ≡ refusal number place headers → RefusedByAll edition s number place headers
  pub of_letter : (s : List ℕ) (headers : ℕ) (elements : List Element) → letter_in edition s ≡ letter headers elements → OfLetter edition s headers elements
  -- the bounds that a caller of C is answered lie in the stream, and the part stands between them
  pub located_stands : (s : List ℕ) (asked : ℕ) → Stands edition s asked (located edition s asked).first (located edition s asked).past

-- a record stands somewhere in a list
abbrev pub In : Match → List Match → Type 0
In m ms = (i : ℕ) × (get_elem? ms i ≡ some m)

-- Demand 3, of a letter with these elements.
pub record ListOf (edition : Edition) (side : Side) (s : List ℕ) (elements : List Element) : Type 0 where
  -- the list has exactly the matches, none twice, "in stream order and then portion order"
  pub exactly : (m : Match) → In m (matches_in edition side s) ↔ IsMatch side elements m
  pub once : (i j : ℕ) (m : Match) → get_elem? (matches_in edition side s) i ≡ some m → get_elem? (matches_in edition side s) j ≡ some m → i ≡ j
  pub ordered : (i j : ℕ) (m n : Match) → i < j → get_elem? (matches_in edition side s) i ≡ some m → get_elem? (matches_in edition side s) j ≡ some n → Before m n
  -- it is given, with the table, and refused by 16 and 19 alone
  pub lists : (table : List ℕ) (list : List Match) → length elements ≤ rows_lent table → length (matches_in edition side s) ≤ length list
      → (listed edition side s table (length list) ≡ record { number = 0; place = 0; elements = length elements; matches = length (matches_in edition side s) })
      × (listed_table edition side s table (length list) ≡ table_of edition s table)
      × (listed_list edition side s table list ≡ onto (matches_in edition side s) list)
  pub lists_16 : (table : List ℕ) (room : ℕ) → ((listed edition side s table room).number ≡ 16) ↔ (rows_lent table < length elements)
  pub lists_19 : (table : List ℕ) (room : ℕ)
      → ((listed edition side s table room).number ≡ 19) ↔ ((length elements ≤ rows_lent table) × (room < length (matches_in edition side s)))
  pub lists_else : (table : List ℕ) (room : ℕ) → ((listed edition side s table room).number ≡ 16 → ⊥) → ((listed edition side s table room).number ≡ 19 → ⊥)
      → (listed edition side s table room).number ≡ 0
  -- "the matches on a side never exceed the text units, nor the portions listed on that side, so a list of as many records as there are
  -- units never meets 19" (W-212)
  pub at_most_units : length (matches_in edition side s) ≤ units elements
  pub at_most_portions : length (matches_in edition side s) ≤ portions_on side elements
  pub units_enough : (table : List ℕ) (room : ℕ) → units elements ≤ room → (listed edition side s table room).number ≡ 19 → ⊥

-- Demand 3: the reading list of either side.
pub record Demand3 (edition : Edition) : Type 0 where
  pub of_letter : (side : Side) (s : List ℕ) (headers : ℕ) (elements : List Element) → letter_in edition s ≡ letter headers elements
      → ListOf edition side s elements
