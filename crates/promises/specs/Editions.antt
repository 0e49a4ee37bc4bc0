-- The two editions beside each other (W-213). `editions` (proofs/Editions) is a value of the record below. What each edition accepts is said by its
-- shapes (crate elements, specs/Shape); demands 1 to 3 are over either.
use Rattle.std.specs.Prelude.{◌≡◌, ◌↔◌, Bool, true, not, ◌&&◌, ◌||◌, List, [], ◌∷◌, map, ℕ, ◌<◌, take}
use Rattle.std.proofs.Math.Option.{some}
use Rattle.std.proofs.Math.ListN.{get_elem?}
use Rattle.octets.specs.Told.{ended}
use Rattle.octets.specs.Walk.{walk_of}
use Rattle.tree.specs.Tree.{Tree, tree_of}
use Rattle.contents.specs.Search.{absent, is}
use Rattle.portions.specs.Portions.{all, any}
use Rattle.elements.specs.declared.Edition.TheVariants.{Of1988, Of1993}
use Rattle.elements.specs.Judge.{Element, no_type, none_of, most_elements}
use Rattle.elements.specs.ElementRows.{place_of}
use Rattle.letters.specs.Letter.{letter, refusal, items_of_stream, letter_in, rows_in}
use Rattle.reading.specs.declared.Match.{Match}
use Rattle.reading.specs.declared.Side.{Side}
use Rattle.reading.specs.Match.{IsMatch}
use Rattle.answers.specs.Answers.{checked, checked_table, written, written_output, listed, listed_table, matches_in, listed_list, fetched, located}
use Rattle.answers.specs.Answers.{copied, copied_output}
use Rattle.answers.specs.Related.{related, related_table, related_list}
use Rattle.answers.specs.Text.{text_read, shown_table, text_lines, text_output}
use Rattle.answers.specs.Sources.{sourced, sourced_list}
use Rattle.answers.specs.Short.{written_short, written_short_output}
use Rattle.order.specs.declared.Class.{Class}
use Rattle.order.specs.declared.Ordered.{Ordered}
use Rattle.order.specs.Question.{OrderIs}
use Rattle.answers.specs.Dates.{date_of, dated}
use Rattle.answers.specs.FirstDates.{first_tree, first_date_of, first_dated}
use Rattle.promises.specs.Refusals.{TopItem, top_items, Refuses}

-- a protected part: A9 to AC
abbrev pub is_protected : (type : List ℕ) → Bool
is_protected type = any (is 0xA9 type ∷ is 0xAA type ∷ is 0xAB type ∷ is 0xAC type ∷ [])

-- an element that both editions read alike: no protected part, and a text unit with its content in a 04 or a 24
abbrev pub read_alike : TopItem → Bool
read_alike item = not (is_protected item.type) && (not (is 0xA3 item.type) || not (none_of 0x04 item.run && none_of 0x24 item.run))

-- "no protected parts and only items on which both editions agree"
abbrev pub agree : Tree → Bool
agree t = all (map read_alike (top_items t))

-- the same answer to every question, and the same left in what was lent
pub record SameAnswers (s : List ℕ) : Type 0 where
  pub check : (table : List ℕ) → checked Of1993 s table ≡ checked Of1988 s table
  pub check_table : (table : List ℕ) → checked_table Of1993 s table ≡ checked_table Of1988 s table
  pub normal : (out : List ℕ) → written Of1993 s out ≡ written Of1988 s out
  pub normal_output : (out : List ℕ) → written_output Of1993 s out ≡ written_output Of1988 s out
  pub short : (out : List ℕ) → written_short Of1993 s out ≡ written_short Of1988 s out
  pub short_output : (out : List ℕ) → written_short_output Of1993 s out ≡ written_short_output Of1988 s out
  pub list : (side : Side) (table : List ℕ) (room : ℕ) → listed Of1993 side s table room ≡ listed Of1988 side s table room
  pub list_table : (side : Side) (table : List ℕ) (room : ℕ) → listed_table Of1993 side s table room ≡ listed_table Of1988 side s table room
  pub list_records : (side : Side) (table : List ℕ) (list : List Match) → listed_list Of1993 side s table list ≡ listed_list Of1988 side s table list
  pub content : (asked : ℕ) → fetched Of1993 s asked ≡ fetched Of1988 s asked
  pub content_bounds : (asked : ℕ) → located Of1993 s asked ≡ located Of1988 s asked
  pub joined : (asked : ℕ) (out : List ℕ) → copied Of1993 s asked out ≡ copied Of1988 s asked out
  pub joined_output : (asked : ℕ) (out : List ℕ) → copied_output Of1993 s asked out ≡ copied_output Of1988 s asked out
  pub children : (table : List ℕ) (row room : ℕ) → related Of1993 s table row room ≡ related Of1988 s table row room
  pub children_table : (table : List ℕ) (row room : ℕ) → related_table Of1993 s table row room ≡ related_table Of1988 s table row room
  pub children_rows : (table : List ℕ) (row : ℕ) (list : List ℕ) → related_list Of1993 s table row list ≡ related_list Of1988 s table row list
  pub text : (side : Side) (table : List ℕ) (room : ℕ) (out : List ℕ) → text_read Of1993 side s table room out ≡ text_read Of1988 side s table room out
  pub text_table : (side : Side) (table : List ℕ) (room : ℕ) (out : List ℕ) → shown_table Of1993 side s table room out ≡ shown_table Of1988 side s table room out
  pub text_lines_alike : (side : Side) (table lines out : List ℕ) → text_lines Of1993 side s table lines out ≡ text_lines Of1988 side s table lines out
  pub text_output_alike : (side : Side) (table : List ℕ) (room : ℕ) (out : List ℕ)
      → text_output Of1993 side s table room out ≡ text_output Of1988 side s table room out
  pub sources : (side : Side) (list : List ℕ) → sourced Of1993 side s list ≡ sourced Of1988 side s list
  pub sources_list : (side : Side) (list : List ℕ) → sourced_list Of1993 side s list ≡ sourced_list Of1988 side s list
  pub date : date_of Of1993 s ≡ date_of Of1988 s
  pub date_bounds : dated Of1993 s ≡ dated Of1988 s
  pub order : (class : Class) (r : Ordered) → OrderIs Of1993 class s r ↔ OrderIs Of1988 class s r

-- a letter of both: the same elements, rows and matches
pub record SameLetterIn (s : List ℕ) (headers : ℕ) (elements : List Element) : Type 0 where
  pub accepted : letter_in Of1993 s ≡ letter headers elements
  pub rows : rows_in Of1993 s ≡ rows_in Of1988 s
  pub matches : (side : Side) → matches_in Of1993 side s ≡ matches_in Of1988 side s

-- "no identifier in the row or in rules 14 and 15", no portions, and no object type
pub record Unnamed (element : Element) : Type 0 where
  pub object : element.object ≡ no_type
  pub identifier : element.identifier ≡ absent
  pub logical : element.logical ≡ absent
  pub portions : element.portions ≡ []

-- rules 9 to 15 of 1988 pass all elements before element j
abbrev pub PassedBefore : (s : List ℕ) (j : ℕ) → Type 0
PassedBefore s j =
    (i : ℕ) (item : TopItem) → i < j → get_elem? (top_items (tree_of s)) i ≡ some item → (n : ℕ) → Refuses Of1988 (take i (top_items (tree_of s))) item n → ⊥

-- each question that fills a table leaves it as it was; the desk's is in crate promises_pm1
pub record FillsNone (s table : List ℕ) : Type 0 where
  pub check : checked_table Of1988 s table ≡ table
  pub list : (side : Side) (room : ℕ) → listed_table Of1988 side s table room ≡ table
  pub children : (row room : ℕ) → related_table Of1988 s table row room ≡ table
  pub text : (side : Side) (room : ℕ) (out : List ℕ) → shown_table Of1988 side s table room out ≡ table

pub record Editions : Type 0 where
  -- the shapes of 1993 contain those of 1988
  pub contained : (s : List ℕ) (headers : ℕ) (elements : List Element) → letter_in Of1988 s ≡ letter headers elements → SameLetterIn s headers elements
  -- "A stream with no protected parts and only items on which both editions agree gets the same answer from either."
  pub alike : (s : List ℕ) → agree (tree_of s) ≡ true → SameAnswers s
  -- and alike is the date that is read of the first element alone
  pub first_alike : (s : List ℕ) → agree (first_tree s) ≡ true → (first_date_of Of1993 s ≡ first_date_of Of1988 s) × (first_dated Of1993 s ≡ first_dated Of1988 s)
  -- "Protected parts have kinds above 8 .. no identifier in the row or in rules 14 and 15"
  pub unnamed : (s : List ℕ) (headers : ℕ) (elements : List Element) → letter_in Of1993 s ≡ letter headers elements
      → (j : ℕ) (element : Element) → get_elem? elements j ≡ some element → 8 < element.kind → Unnamed element
  -- they "join no match": neither as the element of one nor as its unit
  pub unmatched : (elements : List Element) (j : ℕ) (element : Element) → get_elem? elements j ≡ some element → 8 < element.kind
      → (side : Side) (m : Match) → IsMatch side elements m → (m.element ≡ j → ⊥) × (m.unit ≡ j → ⊥)
  -- "The 1988 question still gives 10 for them": at the first of them, if no rule refuses earlier,
  pub ten : (s : List ℕ) (at headers j : ℕ) (item : TopItem) → walk_of s ≡ ended at headers → get_elem? (top_items (tree_of s)) j ≡ some item
      → is_protected item.type ≡ true → PassedBefore s j → j < most_elements → letter_in Of1988 s ≡ refusal 10 (place_of j (items_of_stream s)) headers
  -- "never a wrong row": a stream with a protected part fills no table
  pub no_row : (s : List ℕ) (j : ℕ) (item : TopItem) → get_elem? (top_items (tree_of s)) j ≡ some item → is_protected item.type ≡ true
      → (table : List ℕ) → FillsNone s table
