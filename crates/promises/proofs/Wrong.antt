-- The wrong programs that document 01 names meet no contract: each is held to the contract at a stream where it is wrong, and what the contract
-- says there is computed.
use mathlib.Core.Path.{◌≡◌, refl, ap, sym, ◌∙◌}
use mathlib.Core.Bool.{false, xor}
use mathlib.Core.List.{List, [], ◌∷◌}
use mathlib.Core.Option.{some}
use Prim.Native.Nat.{ℕ, suc, ◌≤◌}
use native.Mathlib.Omega.{arith}
use lib.ListN.{length, get_or, get_elem?, replicate}
use Rattle.headers.specs.Head.{permits, form_allowed, big_endian_from, misfits, definite_at, indefinite_at, long_at, by_first, length_at, item_at, closing_at, head_at}
use Rattle.octets.specs.Walk.{stream_limit, deepest, run_for, run, walk_of}
use Rattle.octets.proofs.RulesHold.{derives}
use Rattle.tree.specs.Tree.{Tree, empty, leaf, branch, tree_of}
use Rattle.names.specs.Names.{is_digit, grouped, is_identifier, all_digits, is_portion, same}
use Rattle.normal.specs.Normal.{number_octets, normal_of}
use Rattle.rows.specs.Rows.{name_space_of}
use Rattle.contents.specs.Search.{absent, octets, amount, first_value, first_run, bounds_of, items_in as inside_of, in_order}
use Rattle.pieces.specs.Pieces.{only_pieces, joined}
use Rattle.portions.specs.Portions.{all_portions, values, well_spelt, among, repeats}
use Rattle.elements.specs.declared.Edition.{Edition}
use Rattle.elements.specs.declared.Edition.TheVariants.{Of1988, Of1993}
use Rattle.elements.specs.Shape.{shape_of}
use Rattle.elements.specs.Judge.{Content, single, in_pieces, content_of, joined_content, Element, body_of, element_of, items_in_order, as_tabled, names_fit, clash}
use Rattle.elements.specs.Judge.{twice, refusal_of, judge_one, judge_from, judge}
use Rattle.elements.specs.declared.Row.{Row}
use Rattle.elements.specs.ElementRows.{body_in, content_octet, row_of, rows_of, place_of, bytes_in}
use Rattle.letters.specs.Letter.{letter, letter_in, rows_in}
use Rattle.reading.specs.declared.Match.{Match}
use Rattle.reading.specs.declared.Side.{Side}
use Rattle.reading.specs.declared.Side.TheVariants.{Layout}
use Rattle.reading.specs.Match.{joins, for_each, portion_matches, element_matches, matches, units}
use Rattle.answers.specs.declared.Checked.{Checked}
use Rattle.answers.specs.declared.Written.{Written}
use Rattle.answers.specs.declared.Listed.{Listed}
use Rattle.answers.specs.declared.Copied.{Copied}
use Rattle.answers.specs.Answers.{onto, checked, CheckOutcome, written, written_output, NormalOutcome, listed, listed_list, ListOutcome, fetched, PartOutcome}
use Rattle.answers.specs.Answers.{joined_in, copied, copied_output, JoinedOutcome}
use Rattle.promises.specs.Demands.{item_count}
use Rattle.promises.proofs.Demand1.{demand1}
use Rattle.promises.proofs.Telling.{count-tree}

-- programs: what they answer, and what they leave in what they were lent
abbrev Checker : Type 0
Checker = (s table : List ℕ) → Checked × List ℕ

abbrev Writer : Type 0
Writer = (s out : List ℕ) → Written × List ℕ

abbrev Lister : Type 0
Lister = (side : Side) (s table : List ℕ) (list : List Match) → Listed × List ℕ × List Match

abbrev Fetcher : Type 0
Fetcher = (s : List ℕ) (asked : ℕ) → List ℕ

abbrev Joiner : Type 0
Joiner = (s : List ℕ) (asked : ℕ) (out : List ℕ) → Copied × List ℕ

-- programs that meet the contracts
abbrev pub Checks : Edition → Checker → Type 0
Checks edition f = (s table : List ℕ) → CheckOutcome edition s table (f s table).0 (f s table).1

abbrev pub Writes : Edition → Writer → Type 0
Writes edition f = (s out : List ℕ) → NormalOutcome edition s out (f s out).0 (f s out).1

abbrev pub Lists : Edition → Lister → Type 0
Lists edition f = (side : Side) (s table : List ℕ) (list : List Match) → ListOutcome edition side s table list (f side s table list).0
    (f side s table list).1 (f side s table list).2

abbrev pub FetchesParts : Edition → Fetcher → Type 0
FetchesParts edition f = (s : List ℕ) (asked : ℕ) → PartOutcome edition s asked (f s asked)

abbrev pub Joins : Edition → Joiner → Type 0
Joins edition f = (s : List ℕ) (asked : ℕ) (out : List ℕ) → JoinedOutcome edition s asked out (f s asked out).0 (f s asked out).1

-- a table of three rows
abbrev table : List ℕ
table = replicate 39 0

-- a profile, the same with a closing mark, and two of them
abbrev profile : List ℕ
profile = 0xA0 ∷ 0x00 ∷ []

abbrev marked : List ℕ
marked = 0xA0 ∷ 0x80 ∷ 0x00 ∷ 0x00 ∷ []

abbrev two : List ℕ
two = 0xA0 ∷ 0x00 ∷ 0xA0 ∷ 0x00 ∷ []

-- an output of four octets
abbrev nines : List ℕ
nines = 9 ∷ 9 ∷ 9 ∷ 9 ∷ []

-- the letter that document 01 prints: a profile, the layout object "1 0 2" with the portion "0", and the text unit "1 0 2 0"
abbrev printed : List ℕ
printed =
    0xA0 ∷ 0x00
    ∷ 0xA2 ∷ 0x11 ∷ 0x02 ∷ 0x01 ∷ 0x04 ∷ 0x31 ∷ 0x0C ∷ 0x41 ∷ 0x05 ∷ 0x31 ∷ 0x20 ∷ 0x30 ∷ 0x20 ∷ 0x32 ∷ 0xA1 ∷ 0x03 ∷ 0x12 ∷ 0x01 ∷ 0x30
    ∷ 0xA3 ∷ 0x0F ∷ 0x31 ∷ 0x09 ∷ 0x40 ∷ 0x07 ∷ 0x31 ∷ 0x20 ∷ 0x30 ∷ 0x20 ∷ 0x32 ∷ 0x20 ∷ 0x30 ∷ 0x04 ∷ 0x02 ∷ 0x48 ∷ 0x69 ∷ []

-- the letter with content in pieces that document 01 prints, and what its elements say
abbrev pieced : List ℕ
pieced = 0xA0 ∷ 0x00 ∷ 0xA3 ∷ 0x08 ∷ 0x24 ∷ 0x06 ∷ 0x04 ∷ 0x01 ∷ 0x48 ∷ 0x04 ∷ 0x01 ∷ 0x69 ∷ []

abbrev saying : (kind : ℕ) → Content → Element
saying kind content = record { kind = kind; object = 255; identifier = absent; logical = absent; portions = []; content = content }

abbrev unit : Element
unit = saying 3 (in_pieces (leaf (0x04 ∷ []) (0x48 ∷ []) (leaf (0x04 ∷ []) (0x69 ∷ []) empty)))

abbrev pieced_elements : List Element
pieced_elements = saying 0 (single absent) ∷ unit ∷ []

-- the first piece of a content
abbrev first_of : Tree → List ℕ
first_of empty = []
first_of (leaf type value after) = value
first_of (branch type inside after) = first_of inside

abbrev first_piece : Content → List ℕ
first_piece (single value) = joined_content (single value)
first_piece (in_pieces run) = first_of run

abbrev first_element : List Match → ℕ
first_element [] = 0
first_element (m ∷ ms) = m.element

abbrev no_match : Match
no_match = record { element = 9; portion = 9; unit = 9 }

accepts-profile : (edition : Edition) → checked edition profile table ≡ record { number = 0; place = 0; headers = 1; elements = 1 }
unfolding permits form_allowed big_endian_from misfits definite_at indefinite_at long_at by_first length_at item_at closing_at head_at run_for run walk_of amount first_value first_run all_portions values well_spelt repeats shape_of body_of content_of element_of items_in_order as_tabled names_fit clash twice refusal_of judge_one judge_from judge place_of letter_in checked xor
accepts-profile Of1988 = refl
accepts-profile Of1993 = refl

refuses-nothing : (edition : Edition) → (checked edition [] table).number ≡ 11
unfolding run_for run walk_of judge place_of letter_in checked
refuses-nothing Of1988 = refl
refuses-nothing Of1993 = refl

two-headers : (edition : Edition) → (checked edition two table).headers ≡ 2
unfolding permits form_allowed big_endian_from misfits definite_at indefinite_at long_at by_first length_at item_at closing_at head_at run_for run walk_of amount first_value first_run all_portions values well_spelt repeats shape_of body_of content_of element_of items_in_order as_tabled names_fit clash twice refusal_of judge_one judge_from judge place_of letter_in checked xor
two-headers Of1988 = refl
two-headers Of1993 = refl

one-header : (edition : Edition) → (checked edition marked table).headers ≡ 1
unfolding permits form_allowed big_endian_from misfits definite_at indefinite_at long_at by_first length_at item_at closing_at head_at run_for run walk_of amount first_value first_run all_portions values well_spelt repeats shape_of body_of content_of element_of items_in_order as_tabled names_fit clash twice refusal_of judge_one judge_from judge place_of letter_in checked xor
one-header Of1988 = refl
one-header Of1993 = refl

shorter-form : (edition : Edition) → ((written edition marked nines).number ≡ 0) × (written_output edition marked nines ≡ 0xA0 ∷ 0x00 ∷ 9 ∷ 9 ∷ [])
unfolding permits form_allowed big_endian_from misfits definite_at indefinite_at long_at by_first length_at item_at closing_at head_at run_for run walk_of amount first_value first_run all_portions values well_spelt repeats shape_of body_of content_of element_of items_in_order as_tabled names_fit clash twice refusal_of judge_one judge_from judge place_of letter_in number_octets normal_of written written_output xor
shorter-form Of1988 = (refl, refl)
shorter-form Of1993 = (refl, refl)

one-match : (edition : Edition) → listed_list edition Layout printed table (no_match ∷ []) ≡ record { element = 1; portion = 0; unit = 2 } ∷ []
unfolding permits form_allowed big_endian_from misfits definite_at indefinite_at long_at by_first length_at item_at closing_at head_at run_for run walk_of amount first_value first_run in_order all_portions values well_spelt among repeats is_digit grouped is_identifier all_digits is_portion same name_space_of shape_of body_of content_of element_of items_in_order as_tabled names_fit clash twice refusal_of judge_one judge_from judge place_of letter_in joins for_each portion_matches element_matches matches listed listed_list xor
one-match Of1988 = refl
one-match Of1993 = refl

some-content : (edition : Edition) → (fetched edition printed 2).part ≡ 0x48 ∷ 0x69 ∷ []
unfolding permits form_allowed big_endian_from misfits definite_at indefinite_at long_at by_first length_at item_at closing_at head_at run_for run walk_of amount first_value first_run in_order all_portions values well_spelt among repeats is_digit grouped is_identifier all_digits is_portion same name_space_of shape_of body_of content_of element_of items_in_order as_tabled names_fit clash twice refusal_of judge_one judge_from judge place_of letter_in fetched xor
some-content Of1988 = refl
some-content Of1993 = refl

pieced-letter : (edition : Edition) → letter_in edition pieced ≡ letter 5 pieced_elements
unfolding permits form_allowed big_endian_from misfits definite_at indefinite_at long_at by_first length_at item_at closing_at head_at run_for run walk_of amount first_value first_run in_order all_portions values well_spelt among repeats is_digit grouped is_identifier all_digits is_portion same name_space_of only_pieces shape_of body_of content_of element_of items_in_order as_tabled names_fit clash twice refusal_of judge_one judge_from judge place_of letter_in xor
pieced-letter Of1988 = refl
pieced-letter Of1993 = refl

joined-pieces : (edition : Edition) → ((copied edition pieced 1 nines).number ≡ 0) × (copied_output edition pieced 1 nines ≡ 0x48 ∷ 0x69 ∷ 9 ∷ 9 ∷ [])
unfolding permits form_allowed big_endian_from misfits definite_at indefinite_at long_at by_first length_at item_at closing_at head_at run_for run walk_of amount first_value first_run in_order all_portions values well_spelt among repeats is_digit grouped is_identifier all_digits is_portion same name_space_of shape_of body_of content_of element_of items_in_order as_tabled names_fit clash twice refusal_of judge_one judge_from judge place_of letter_in only_pieces joined joined_in copied copied_output xor
joined-pieces Of1988 = (refl, refl)
joined-pieces Of1993 = (refl, refl)

-- the row of its text unit, whose content fields give the value of the 24
abbrev pieced_row : Row
pieced_row = record {
  kind = 3;
  object = 255;
  whole = record { first = 2; past = 12 };
  identifier = record { first = 0; past = 0 };
  logical = record { first = 0; past = 0 };
  portions = record { first = 0; past = 0 };
  content = record { first = 6; past = 12 };
}

row-of-pieces : (edition : Edition) → get_elem? (rows_in edition pieced) 1 ≡ some pieced_row
unfolding permits form_allowed big_endian_from misfits definite_at indefinite_at long_at by_first length_at item_at closing_at head_at run_for run walk_of amount first_value first_run in_order all_portions values well_spelt among repeats is_digit grouped is_identifier all_digits is_portion same name_space_of shape_of body_of content_of element_of items_in_order as_tabled names_fit clash twice refusal_of judge_one judge_from judge place_of letter_in only_pieces body_in content_octet bounds_of inside_of row_of rows_of xor
row-of-pieces Of1988 = refl
row-of-pieces Of1993 = refl

-- no checker refuses every stream,
pub refuses-all : (edition : Edition) (f : Checker) → Checks edition f → ((s rows : List ℕ) → (f s rows).0.number ≡ 0 → ⊥) → ⊥
refuses-all edition f meets wrong =
    wrong profile table (ap (λ (a : Checked). a.number) ((meets profile table).answered ∙ accepts-profile edition))

-- or gives one fixed answer;
pub fixed_answer : (edition : Edition) (f : Checker) → Checks edition f → (fixed : Checked) → ((s rows : List ℕ) → (f s rows).0 ≡ fixed) → ⊥
fixed_answer edition f meets fixed wrong =
    let a : fixed.number ≡ 0 = ap (λ (x : Checked). x.number) (sym (wrong profile table) ∙ (meets profile table).answered ∙ accepts-profile edition) in
    let b : fixed.number ≡ 11 = ap (λ (x : Checked). x.number) (sym (wrong [] table) ∙ (meets [] table).answered) ∙ refuses-nothing edition in
    omega arith

-- none makes a header count up: a count that on one stream within the limit is not that of the tree's items breaks the contract,
pub made-up-headers : (edition : Edition) (f : Checker) → Checks edition f → (s rows : List ℕ) → length s ≤ stream_limit
    → ((f s rows).0.headers ≡ item_count (tree_of s) → ⊥) → ⊥
made-up-headers edition f meets s rows within wrong =
    wrong (ap (λ (x : Checked). x.headers) (meets s rows).answered ∙ (demand1 edition).headers s rows within
    ∙ count-tree (derives deepest s 0 (length s) false (omega arith)))

-- and so does one that is told from the stream's length;
pub headers-by-length : (edition : Edition) (f : Checker) → Checks edition f → (made_up : ℕ → ℕ)
    → ((s rows : List ℕ) → (f s rows).0.headers ≡ made_up (length s)) → ⊥
headers-by-length edition f meets made_up wrong =
    let a : made_up 4 ≡ 1 = sym (wrong marked table) ∙ ap (λ (x : Checked). x.headers) (meets marked table).answered ∙ one-header edition in
    let b : made_up 4 ≡ 2 = sym (wrong two table) ∙ ap (λ (x : Checked). x.headers) (meets two table).answered ∙ two-headers edition in
    omega arith

-- no lister writes nothing;
pub lists-nothing : (edition : Edition) (f : Lister) → Lists edition f → ((side : Side) (s rows : List ℕ) (list : List Match) → (f side s rows list).2 ≡ list)
    → ⊥
lists-nothing edition f meets wrong =
    let z : ◌≡◌ {A = ℕ} 9 1 =
    ap first_element (sym (wrong Layout printed table (no_match ∷ [])) ∙ (meets Layout printed table (no_match ∷ [])).filled ∙ one-match edition) in
    omega arith

-- no fetch always hands back an empty part;
pub fetches-nothing : (edition : Edition) (f : Fetcher) → FetchesParts edition f → ((s : List ℕ) (asked : ℕ) → f s asked ≡ []) → ⊥
fetches-nothing edition f meets wrong =
    let z : ◌≡◌ {A = ℕ} 0 2 = ap length (sym (wrong printed 2) ∙ meets printed 2 ∙ some-content edition) in
    omega arith

-- no writer copies its input wherever it writes;
pub copies-input : (edition : Edition) (f : Writer) → Writes edition f → ((s out : List ℕ) → (f s out).0.number ≡ 0 → (f s out).1 ≡ onto s out) → ⊥
copies-input edition f meets wrong =
    let m = meets marked nines in
    let w : (f marked nines).0.number ≡ 0 = ap (λ (a : Written). a.number) m.answered ∙ (shorter-form edition).0 in
    let z : ◌≡◌ {A = ℕ} 0x80 0 = ap (λ (octets : List ℕ). get_or octets 1 0) (sym (wrong marked nines w) ∙ m.put ∙ (shorter-form edition).1) in
    omega arith

-- no joiner gives the first piece alone;
pub joins-first : (edition : Edition) (f : Joiner) → Joins edition f
    → ((s : List ℕ) (asked : ℕ) (out : List ℕ) (headers : ℕ) (elements : List Element) (element : Element) → letter_in edition s ≡ letter headers elements
    → get_elem? elements asked ≡ some element → (f s asked out).0.number ≡ 0 → (f s asked out).1 ≡ onto (first_piece element.content) out) → ⊥
joins-first edition f meets wrong =
    let m = meets pieced 1 nines in
    let w : (f pieced 1 nines).0.number ≡ 0 = ap (λ (a : Copied). a.number) m.answered ∙ (joined-pieces edition).0 in
    let z : ◌≡◌ {A = ℕ} 9 0x69 =
    ap (λ (octets : List ℕ). get_or octets 1 0) (sym (wrong pieced 1 nines 5 pieced_elements unit (pieced-letter edition) refl w) ∙ m.put
    ∙ (joined-pieces edition).1) in
    omega arith

-- and none copies what the row bounds, the pieces with their headers.
pub joins-headers : (edition : Edition) (f : Joiner) → Joins edition f
    → ((s : List ℕ) (asked : ℕ) (out : List ℕ) (row : Row) → get_elem? (rows_in edition s) asked ≡ some row → (f s asked out).0.number ≡ 0
    → (f s asked out).1 ≡ onto (bytes_in s row.content) out) → ⊥
joins-headers edition f meets wrong =
    let m = meets pieced 1 nines in
    let w : (f pieced 1 nines).0.number ≡ 0 = ap (λ (a : Copied). a.number) m.answered ∙ (joined-pieces edition).0 in
    let z : ◌≡◌ {A = ℕ} 0x04 0x48 = ap (λ (octets : List ℕ). get_or octets 0 0) (sym (wrong pieced 1 nines pieced_row (row-of-pieces edition) w) ∙ m.put
    ∙ (joined-pieces edition).1) in
    omega arith

-- what the elements of the printed letter say
abbrev printed_elements : List Element
printed_elements =
    saying 0 (single absent)
    ∷ record {
      kind = 2;
      object = 4;
      identifier = octets (0x31 ∷ 0x20 ∷ 0x30 ∷ 0x20 ∷ 0x32 ∷ []);
      logical = absent;
      portions = (0x30 ∷ []) ∷ [];
      content = single absent;
    }
    ∷ record {
      kind = 3;
      object = 255;
      identifier = octets (0x31 ∷ 0x20 ∷ 0x30 ∷ 0x20 ∷ 0x32 ∷ 0x20 ∷ 0x30 ∷ []);
      logical = absent;
      portions = [];
      content = single (octets (0x48 ∷ 0x69 ∷ []));
    }
    ∷ []

printed-letter : (edition : Edition) → letter_in edition printed ≡ letter 11 printed_elements
unfolding permits form_allowed big_endian_from misfits definite_at indefinite_at long_at by_first length_at item_at closing_at head_at run_for run walk_of amount first_value first_run in_order all_portions values well_spelt among repeats is_digit grouped is_identifier all_digits is_portion same name_space_of shape_of body_of content_of element_of items_in_order as_tabled names_fit clash twice refusal_of judge_one judge_from judge place_of letter_in only_pieces xor
printed-letter Of1988 = refl
printed-letter Of1993 = refl

no_room : (edition : Edition) → (listed edition Layout printed table 0).number ≡ 19
unfolding permits form_allowed big_endian_from misfits definite_at indefinite_at long_at by_first length_at item_at closing_at head_at run_for run walk_of amount first_value first_run in_order all_portions values well_spelt among repeats is_digit grouped is_identifier all_digits is_portion same name_space_of shape_of body_of content_of element_of items_in_order as_tabled names_fit clash twice refusal_of judge_one judge_from judge place_of letter_in joins for_each portion_matches element_matches matches listed xor
no_room Of1988 = refl
no_room Of1993 = refl

-- And no promise of a list with one record fewer than there are text units could be kept: the printed letter has one unit and one match.
pub one-record-fewer : (edition : Edition)
    → ((s : List ℕ) (headers : ℕ) (elements : List Element) → letter_in edition s ≡ letter headers elements → (side : Side) (rows : List ℕ) (room : ℕ)
    → units elements ≤ suc room → (listed edition side s rows room).number ≡ 19 → ⊥) → ⊥
unfolding units
one-record-fewer edition promise = promise printed 11 printed_elements (printed-letter edition) Layout table 0 (omega arith) (no_room edition)
